use Rattle.std.proofs.Common.{◌≡◌, length}
use Rattle.outline_reader.specs.Fields.{named}
use Rattle.outline_reader.proofs.fields.named.Given as goal

abbrev pub invariant-loop-roles : goal.invariant-loop-roles
invariant-loop-roles l = named l.role l.roles l.tokens ≡ named l.role l.initial.roles l.initial.tokens

abbrev pub decreases-loop-roles : goal.decreases-loop-roles
decreases-loop-roles l = length l.roles
