-- `file_accept::output::chain_file` meets its contract.
use Prim.Native.Nat.{ℕ}
use mathlib.Core.Path.{◌≡◌, sym, ◌∙◌}
use Rattle.std.proofs.lemmas.Result.{err_from_is_err_and}
use native.Mathlib.Omega.{arith}
use mathlib.Core.List.{◌++◌}
use lib.ListN.{length, take, drop, length-replicate}
use lib.Seq.{length-take-le, take_all}
use Rattle.file_format.proofs.Laws.Rules.{few_records}
use Rattle.sheet_format.proofs.Laws.Loaded.{accepted_by, refused_by}
use Rattle.file_accept.proofs.Laws.Copied.{size_small, rows_room, part_counted, answer_short, answer_copied}
use Rattle.sheet_format.specs.declared.Level.TheVariants.{Level0}
use Rattle.sheet_format.specs.Bytes.{sheet_bytes}
use Rattle.file_accept.proofs.output.chain_file.Goals as goal

pub accept-requires : goal.accept-requires
accept-requires c = record { room = λ f. omega (arith, few_records _ f.header) }

pub size_of-size-requires : goal.size_of-size-requires
size_of-size-requires c =
    let ok = accepted_by c.args.file.now (sym c.in_ok-accept.ensures.answer) in
    let front = c.accept.ensures.rows ok in
    size_small c.args.file.now ok _ _ front

pub returns-then-out-size : goal.returns-then-out-size
returns-then-out-size c =
    let ok = accepted_by c.args.file.now (sym c.in_ok-accept.ensures.answer) in
    let front = c.accept.ensures.rows ok in
    answer_short c.args.file.now ok _ _ front c.size_of-size.ensures c.args.out.now c.if-out-size.true

pub slice_bounds-rows-end : goal.slice_bounds-rows-end
slice_bounds-rows-end c =
    let ok = accepted_by c.args.file.now (sym c.in_ok-accept.ensures.answer) in
    let front = c.accept.ensures.rows ok in
    omega (
      arith,
      c.size_of-size.ensures,
      size_small c.args.file.now ok _ _ front,
      rows_room c.args.file.now ok _ _ front (length-replicate {A = ℕ} 2064 0),
    )

pub slice_bounds-copy_from_slice-end-3 : goal.slice_bounds-copy_from_slice-end-3
slice_bounds-copy_from_slice-end-3 c =
    let ok = accepted_by c.args.file.now (sym c.in_ok-accept.ensures.answer) in
    let front = c.accept.ensures.rows ok in
    part_counted c.args.file.now ok _ _ front c.size_of-size.ensures (length-replicate {A = ℕ} 2064 0)

pub copy_from_slice-requires : goal.copy_from_slice-requires
copy_from_slice-requires c =
    let ok = accepted_by c.args.file.now (sym c.in_ok-accept.ensures.answer) in
    let front = c.accept.ensures.rows ok in
    length-take-le c.size_of-size.result c.args.out.now c.if-out-size.false
    ∙ part_counted c.args.file.now ok _ _ front c.size_of-size.ensures (length-replicate {A = ℕ} 2064 0)

pub returns : goal.returns
returns c =
    let ok = accepted_by c.args.file.now (sym c.in_ok-accept.ensures.answer) in
    let front = c.accept.ensures.rows ok in
    let part = take c.size_of-size.result c.accept.new.rows in
    let counted = part_counted c.args.file.now ok _ _ front c.size_of-size.ensures (length-replicate {A = ℕ} 2064 0) in
    let same : c.copy_from_slice.new.self ≡ take (length part) part =
    c.copy_from_slice.ensures.after ∙ sym (take_all (length part) part (omega arith)) in
    answer_copied c.args.file.now ok _ _ front c.size_of-size.ensures c.args.out.now c.if-out-size.false
    (λ i. same i ++ drop (counted i) c.args.out.now)

pub returns-in_err-accept : goal.returns-in_err-accept
returns-in_err-accept c =
    let p = err_from_is_err_and c.from_residual.result c.from_residual.ensures.1 in
    rw (p.1, p.2)
    (sym (refused_by c.args.file.now (sheet_bytes Level0) c.args.out.now (sym c.in_err-accept.ensures.answer)))
