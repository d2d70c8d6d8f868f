use Rattle.std.proofs.Common.{◌↔◌, IsTrue, length}
use Rattle.std.specs.List.{AllByRecursion}
use Rattle.scheme_terms.specs.Forms.{KnownVariable}
use Rattle.notation_parser.specs.Below.{IsBelow}
use Rattle.notation_parser.specs.View.{reading_scope}
use Rattle.notation_parser.proofs.KnownScopes.{knowns_below, below_knowns}
use Rattle.notation_parser.proofs.known_scope.knowns_stand.Goals as goal

pub returns : goal.returns
returns c =
    let scope = reading_scope c.args.scope.now in
    let count = length scope.names.metas in
    let is : IsTrue c.knowns_below.result ↔ AllByRecursion (λ (k : KnownVariable). AllByRecursion (IsBelow count) k.entry.args) scope.names.knowns =
    rw (c.as_slice.ensures, c.len.ensures) at c.knowns_below.ensures in
    let names = c.is_names.ensures.0 c.if-not-is_names.false in (
      λ t _. record { within = below_knowns count scope.names.knowns (is.0 t) },
      λ h. is.1 (knowns_below count scope.names.knowns (h names).within),
    )
