use Rattle.outline_reader.specs.Sorts.{reserved_words, IsReserved}
use Rattle.outline_reader.proofs.SortLemmas.{found_among}
use Rattle.outline_reader.proofs.sort.is_reserved.Goals as goal

pub returns-clause-fact : goal.returns-clause-fact
unfolding IsReserved
returns-clause-fact c = rw c.is_listed.ensures (found_among reserved_words c.args.word.now)
