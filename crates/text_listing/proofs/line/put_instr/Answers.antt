-- `text_listing::line::put_instr` meets its contract.
use native.Mathlib.Omega.{arith}
use Rattle.sheet_format.proofs.Laws.Put.{puts_as, puts_on}
use Rattle.text_listing.proofs.Laws.Line.{name_end, word_behind, pair_behind, b_behind, none_behind}
use Rattle.text_listing.proofs.line.put_instr.Goals as goal

pub put_two-requires : goal.put_two-requires
put_two-requires c =
    omega (arith, c.requires, name_end c.args.o c.put_name-i.ensures)

pub returns-in-Set : goal.returns-in-Set
returns-in-Set c =
    puts_as (word_behind c.args.o c.args.a c.args.b c.args.c c.from.ensures c.in-Set.is)
    (puts_on (c.put_name-i.ensures c.args.a c.args.b c.args.c) c.put_two.ensures)

pub put_two-requires-in-Add : goal.put_two-requires-in-Add
put_two-requires-in-Add c =
    omega (arith, c.requires, name_end c.args.o c.put_name-i.ensures)

pub returns-in-Add : goal.returns-in-Add
returns-in-Add c =
    puts_as (pair_behind c.args.o c.args.a c.args.b c.args.c c.from.ensures c.in-Add.is)
    (puts_on (c.put_name-i.ensures c.args.a c.args.b c.args.c) c.put_two-in-Add.ensures)

pub put_one-requires : goal.put_one-requires
put_one-requires c =
    omega (arith, c.requires, name_end c.args.o c.put_name-i.ensures)

pub returns-in-Lock : goal.returns-in-Lock
returns-in-Lock c =
    puts_as (b_behind c.args.o c.args.a c.args.b c.args.c c.from.ensures c.in-Lock.is)
    (puts_on (c.put_name-i.ensures c.args.a c.args.b c.args.c) c.put_one.ensures.1)

pub returns-in-LL : goal.returns-in-LL
returns-in-LL c =
    puts_as (none_behind c.args.o c.args.a c.args.b c.args.c c.from.ensures c.in-LL.is)
    (c.put_name-i.ensures c.args.a c.args.b c.args.c)
