-- What reads past the end of a lane.
use Rattle.file_format.specs.declared.accepted.Op.{Op}
use Rattle.file_format.specs.declared.accepted.Op.TheVariants.{Set}

abbrev pub no_op : Op
no_op = Set 0 0
