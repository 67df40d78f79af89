-- `text_put::words::put_decimal` calls itself for n / 10, so its measure is n.
use Rattle.text_put.proofs.words.+put_decimal.Given as goal

abbrev pub decreases-put_decimal : goal.decreases-put_decimal
decreases-put_decimal l = l.n
