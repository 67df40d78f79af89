-- `sheet_lower::lower::lower_in` meets its contract.
use Prim.Native.Nat.{ℕ}
use mathlib.Core.Path.{◌≡◌, sym, ap, ◌∙◌}
use mathlib.Core.List.{List}
use native.Mathlib.Omega.{arith}
use lib.ListN.{length}
use Rattle.file_format.specs.Accepted.{program_of}
use Rattle.file_format.specs.Structured.{Structured, Fielded}
use Rattle.file_verdict.specs.Verdict.{verdict, accepted}
use Rattle.file_verdict.proofs.Laws.Verdict.{sound, accepted_as}
use Rattle.file_accept.specs.Checks.{linked_refusal}
use Rattle.file_accept.proofs.Laws.Checks.{fields_kept, not_accepted}
use Rattle.std.specs.Prelude.{Ok}
use Rattle.std.proofs.lemmas.Result.{err_from_is_err_and}
use Rattle.sheet_format.specs.Bytes.{sheet_bytes}
use Rattle.sheet_format.proofs.Laws.Loaded.{refused_by, accepted_by, answered_by}
use Rattle.sheet_format.proofs.Laws.Written.{written_length, answer_short, answer_full}
use Rattle.sheet_lower.specs.Sheet.{sheet_of}
use Rattle.sheet_lower.proofs.lower.lower_in.Goals as goal

-- behind the `?`: the file is accepted
ok : (s : List ℕ) → Fielded s → Ok tt ≡ linked_refusal s → verdict s ≡ accepted (program_of s)
ok s f is = accepted_by s (fields_kept s f ∙ sym is)

structured : (s : List ℕ) → verdict s ≡ accepted (program_of s) → Structured s
structured s v = (sound s (accepted_as s (program_of s) v).0).0

pub returns-in_err-linked_refusal : goal.returns-in_err-linked_refusal
returns-in_err-linked_refusal c =
    let p = err_from_is_err_and c.from_residual.result c.from_residual.ensures.1 in
    let answer = c.in_err-linked_refusal.ensures.answer ∙ sym (fields_kept c.args.file.now c.requires.fields) in
    record {
      answer = rw (p.1, p.2) (sym (refused_by c.args.file.now (sheet_bytes c.args.level) c.args.out.now (sym answer)));
      order = λ v. absurd (not_accepted c.args.file.now answer v);
    }

pub write_sheet-size-requires : goal.write_sheet-size-requires
write_sheet-size-requires c =
    let refusal = c.in_ok-linked_refusal.ensures in
    let v =
    ok c.args.file.now c.requires.fields refusal.answer in
    let st = structured c.args.file.now v in
    let wrote = refusal.rows st.linkage st.chains st.targets in record {
      s_value = v;
      chains_of = (
        record {
          own = c.args.rows.now;
          room = omega (arith, wrote.1, c.requires.rows.0);
          counted = wrote.1;
          front = wrote.0;
        },
        c.requires.rows.1,
      );
    }

pub returns-then-out-size : goal.returns-then-out-size
returns-then-out-size c =
    let s = c.args.file.now in
    let out = c.args.out.now in
    let refusal = c.in_ok-linked_refusal.ensures in
    let put = c.write_sheet-size.ensures in
    let v = ok s c.requires.fields refusal.answer in
    let st = structured s v in
    let bytes = sheet_of c.args.level s in
    let long = ap length put.wrote ∙ written_length bytes out in record {
      answer =
          answer_short bytes out put.wrote (omega (arith, put.size, long, c.if-out-size.true))
          ∙ answered_by s v (sheet_bytes c.args.level) out;
      order = λ v. refusal.order st.linkage st.chains st.targets;
    }

pub returns : goal.returns
returns c =
    let s = c.args.file.now in
    let out = c.args.out.now in
    let refusal = c.in_ok-linked_refusal.ensures in
    let put = c.write_sheet-size.ensures in
    let v = ok s c.requires.fields refusal.answer in
    let st = structured s v in
    let bytes = sheet_of c.args.level s in
    let long = ap length put.wrote ∙ written_length bytes out in record {
      answer =
          answer_full bytes out put.wrote put.size (omega (arith, put.size, long, c.if-out-size.false))
          ∙ answered_by s v (sheet_bytes c.args.level) out;
      order = λ v. refusal.order st.linkage st.chains st.targets;
    }
