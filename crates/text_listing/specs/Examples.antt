-- A text by computation. The paper's own listing stands with its other examples.
use Rattle.std.specs.Prelude.{◌≡◌, refl, [], ◌∷◌}
use Rattle.file_verdict.specs.Verdict.{fields_then, structure_then, refusal_of}
use Rattle.text_put.specs.Decimal.{digits, decimal}
use Rattle.text_listing.specs.Line.{refusal_line}
use Rattle.text_listing.specs.Listing.{printed}

-- an empty file: "refused 1 record 0"
refused_holds : printed [] ≡
    114 ∷ 101 ∷ 102 ∷ 117 ∷ 115 ∷ 101 ∷ 100 ∷ 32 ∷ 49 ∷ 32 ∷ 114 ∷ 101 ∷ 99 ∷ 111 ∷ 114 ∷ 100 ∷ 32 ∷ 48 ∷ 10
    ∷ []
unfolding refusal_of structure_then fields_then digits decimal refusal_line
refused_holds = refl
