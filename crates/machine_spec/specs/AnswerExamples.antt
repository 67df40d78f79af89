-- The start states of refused files, and the answer to an UNLOCK of a lock that is not held, by computation.
use Rattle.std.specs.Prelude.{◌≡◌, refl, false, List, [], ◌∷◌, map, ℕ, length}
use Rattle.file_verdict.specs.declared.refusal.Refusal.TheVariants.{TruncatedHeader, BadHeader, BadLength, LockFault}
use Rattle.machine_spec.specs.State.{State, start_state, refused}
use Rattle.machine_spec.specs.Run.{Answer, answer_of, number_in, record_in, refused_start}

-- the header of two lanes, three locations and one lock, and nothing behind it
abbrev header : List ℕ
header = 2 ∷ 3 ∷ 1 ∷ 0 ∷ 0 ∷ 0 ∷ 0 ∷ 0 ∷ 0 ∷ 0 ∷ 0 ∷ 0 ∷ 0 ∷ 0 ∷ 0 ∷ 0 ∷ []

-- the numbers of lanes, locations and locks
abbrev sizes : State → List ℕ
sizes s = length s.lanes ∷ length s.memory ∷ length s.locks ∷ []

-- refused with 1, 2, 3 and 8: the header counts from 3 on
starts_hold :
    map (λ r. sizes (refused_start header r)) (TruncatedHeader ∷ BadHeader ∷ BadLength ∷ LockFault 1 ∷ [])
    ≡ (0 ∷ 0 ∷ 0 ∷ []) ∷ (0 ∷ 0 ∷ 0 ∷ []) ∷ (2 ∷ 3 ∷ 1 ∷ []) ∷ (2 ∷ 3 ∷ 1 ∷ []) ∷ []
starts_hold = refl

zeros_hold : refused_start header BadLength ≡ start_state 2 (0 ∷ 0 ∷ 0 ∷ []) 1
zeros_hold = refl

-- lane 1 is refused for its second operation, which record 7 has
abbrev eleven : Answer
eleven = answer_of [] ((5 ∷ []) ∷ (6 ∷ 7 ∷ []) ∷ []) (start_state 2 (0 ∷ []) 1) (refused 1 1)

eleven_names_its_record : number_in eleven.refusal ∷ record_in eleven.refusal ∷ [] ≡ 11 ∷ 7 ∷ []
eleven_names_its_record = refl

eleven_starts_again : eleven.state ≡ start_state 2 (0 ∷ []) 1
eleven_starts_again = refl

eleven_is_not_finished : eleven.finished ≡ false
eleven_is_not_finished = refl

eleven_counts_nothing : eleven.done ∷ eleven.waited ∷ [] ≡ 0 ∷ 0 ∷ []
eleven_counts_nothing = refl
