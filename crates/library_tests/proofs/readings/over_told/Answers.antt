use Rattle.std.proofs.Common.{rules}
use Rattle.library_tests.proofs.readings.over_told.Goals as goal

pub read-requires : goal.read-requires
read-requires c = c.is_readable.ensures.0 (search rules)
