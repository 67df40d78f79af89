-- Where the reader stands in a line of a schedule: lane and choice in decimal with blanks between, then perhaps a
-- comment from '#' on. A number above 255 counts as 255, which no machine permits either.
use Rattle.std.specs.Prelude.{ℕ, ◌+◌, ◌-◌, ◌*◌, min, Bool, true, false, cond, ◌||◌, ◌&&◌, eqb, leb}
use Rattle.text_schedule.specs.declared.place.Place.{Place}
use Rattle.text_schedule.specs.declared.place.Place.TheVariants.{Blank, Lane, Between, Choice, Full, Remark}
use Rattle.text_schedule.specs.declared.place.Place.TheVariants.{Noted}
use Rattle.text_schedule.specs.declared.place.Place.TheVariants.{Wrong}

-- space, tab, carriage return
abbrev pub is_blank : ℕ → Bool
is_blank b = eqb b 32 || (eqb b 9 || eqb b 13)

abbrev pub is_digit : ℕ → Bool
is_digit b = leb 48 b && leb b 57

abbrev pub is_hash : ℕ → Bool
is_hash b = eqb b 35

-- a number with one digit more
abbrev pub grown : ℕ → ℕ → ℕ
grown n b = min 255 (10 * n + (b - 48))

-- what a byte is to a line: a blank, a digit, a '#', or anything else
abbrev pub sorted : {A : Type 0} → ℕ → A → A → A → A → A
sorted b blank digit hash other = cond (is_blank b) blank (cond (is_digit b) digit (cond (is_hash b) hash other))

-- where the reader stands in a line, after one more byte of it
abbrev pub after : Place → ℕ → Place
after Blank b = sorted b Blank (Lane (grown 0 b)) Remark Wrong
after (Lane l) b = sorted b (Between l) (Lane (grown l b)) Wrong Wrong
after (Between l) b = sorted b (Between l) (Choice l (grown 0 b)) Wrong Wrong
after (Choice l c) b = sorted b (Full l c) (Choice l (grown c b)) (Noted l c) Wrong
after (Full l c) b = sorted b (Full l c) Wrong (Noted l c) Wrong
after Remark b = Remark
after (Noted l c) b = Noted l c
after Wrong b = Wrong

-- whether a line that ends here is no move and not empty either
abbrev pub is_wrong : Place → Bool
is_wrong Blank = false
is_wrong (Lane l) = true
is_wrong (Between l) = true
is_wrong (Choice l c) = false
is_wrong (Full l c) = false
is_wrong Remark = false
is_wrong (Noted l c) = false
is_wrong Wrong = true
