-- `text_listing::line::put_name` meets its contract.
use mathlib.Core.Path.{refl}
use Rattle.text_listing.proofs.Laws.Line.{put_kind}
use Rattle.text_listing.proofs.line.put_name.Goals.{in-Set, in-Add, in-Load, in-Store, in-Lock, in-Unlock, in-Skip}
use Rattle.text_listing.proofs.line.put_name.Goals.{in-LL, in-LS, in-SS, in-SL}
use Rattle.text_listing.proofs.line.put_name.Goals as goal

pub returns : goal.returns
returns c = λ x y z.
    elim c.match-from.branch [
      | in-Set w ↦ put_kind c.args.o x y z c.from.ensures w.in-Set.is w.name-is refl c.put_text.ensures
      | in-Add w ↦ put_kind c.args.o x y z c.from.ensures w.in-Add.is w.name-is refl c.put_text.ensures
      | in-Load w ↦ put_kind c.args.o x y z c.from.ensures w.in-Load.is w.name-is refl c.put_text.ensures
      | in-Store w ↦ put_kind c.args.o x y z c.from.ensures w.in-Store.is w.name-is refl c.put_text.ensures
      | in-Lock w ↦ put_kind c.args.o x y z c.from.ensures w.in-Lock.is w.name-is refl c.put_text.ensures
      | in-Unlock w ↦ put_kind c.args.o x y z c.from.ensures w.in-Unlock.is w.name-is refl c.put_text.ensures
      | in-Skip w ↦ put_kind c.args.o x y z c.from.ensures w.in-Skip.is w.name-is refl c.put_text.ensures
      | in-LL w ↦ put_kind c.args.o x y z c.from.ensures w.in-LL.is w.name-is refl c.put_text.ensures
      | in-LS w ↦ put_kind c.args.o x y z c.from.ensures w.in-LS.is w.name-is refl c.put_text.ensures
      | in-SS w ↦ put_kind c.args.o x y z c.from.ensures w.in-SS.is w.name-is refl c.put_text.ensures
      | in-SL w ↦ put_kind c.args.o x y z c.from.ensures w.in-SL.is w.name-is refl c.put_text.ensures
    ]
