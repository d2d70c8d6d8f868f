use Rattle.std.proofs.Common.{◌≡◌, reverse, drop, length}
use Rattle.outline_reader.specs.Reading.{roles, read, with_roles}
use Rattle.outline_reader.proofs.reader.roles_of.Given as goal

abbrev pub invariant-loop-token : goal.invariant-loop-token
invariant-loop-token l = roles l.tokens ≡ with_roles l.roles.items (read (length l.roles.items) (reverse l.stack.items) l.counts l.before (drop l.token-index l.tokens))
