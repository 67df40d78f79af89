-- `lanes::call::run_file` meets its contract.
use mathlib.Core.Path.{◌∙◌}
use native.Mathlib.Omega.{arith}
use Rattle.std.proofs.lemmas.Result.{err_from_is_err_and}
use lib.ListN.{replicate}
use Rattle.sheet_format.proofs.Answers.{BytesIn}
use Rattle.sheet_format.specs.Bytes.{sheet_bytes}
use Rattle.machine_spec.specs.Run.{level_of}
use Rattle.machine_start.proofs.Laws.Files.{file_accepted}
use Rattle.lanes.proofs.Laws.Files.{file_refused, illegal_moves}
use Rattle.lanes.proofs.Laws.Files.{Takes, takes_place}
use Rattle.lanes.proofs.call.run_file.Goals as goal

pub returns-in_err-program_of : goal.returns-in_err-program_of
returns-in_err-program_of c =
    let p = err_from_is_err_and c.from_residual.result c.from_residual.ensures.1 in
    rw (p.1, p.2)
    (file_refused c.args.machine c.args.file.now _ (omega arith) c.in_err-program_of.ensures c.args.moves.now
    c.args.out.now)

pub returns-then-not-legal_moves : goal.returns-then-not-legal_moves
returns-then-not-legal_moves c =
    illegal_moves c.args.machine
    (file_accepted c.args.machine c.args.file.now (replicate 4112 0) (omega arith) c.in_ok-program_of.ensures)
    c.args.moves.now
    c.args.out.now (omega arith) (λ e. absurd (omega (arith, e)))
    (c.from.ensures ∙ c.byte_at.ensures) c.limit_of.ensures c.legal_moves.ensures c.if-not-legal_moves.true

pub run_rows-requires-clause-start : goal.run_rows-requires-clause-start
run_rows-requires-clause-start c =
    let t : Takes c.args.machine c.from-2.result c.program_of.new.rows c.args.moves.now c.args.file.now
    c.args.out.now =
    takes_place c.args.machine
    (file_accepted c.args.machine c.args.file.now (replicate 4112 0) (omega arith) c.in_ok-program_of.ensures)
    c.args.moves.now c.args.out.now (omega arith) (λ e. absurd (omega (arith, e)))
    (c.from.ensures ∙ c.byte_at.ensures) c.limit_of.ensures c.legal_moves.ensures c.if-not-legal_moves.false
    (c.from-2.ensures ∙ c.word_at.ensures.0) (omega arith)
    in
    record { file = c.args.file.now; kernel = t.kernel; program = t.program }

pub returns : goal.returns
returns c =
    let t : Takes c.args.machine c.from-2.result c.program_of.new.rows c.args.moves.now c.args.file.now
    c.args.out.now =
    takes_place c.args.machine
    (file_accepted c.args.machine c.args.file.now (replicate 4112 0) (omega arith) c.in_ok-program_of.ensures)
    c.args.moves.now c.args.out.now (omega arith) (λ e. absurd (omega (arith, e)))
    (c.from.ensures ∙ c.byte_at.ensures) c.limit_of.ensures c.legal_moves.ensures c.if-not-legal_moves.false
    (c.from-2.ensures ∙ c.word_at.ensures.0) (omega arith)
    in
    c.run_rows.ensures _ _ t.program ∙ t.answers
