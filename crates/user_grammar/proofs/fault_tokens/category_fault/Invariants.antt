use Rattle.std.proofs.Common.{map, take}
use Rattle.outline_reader.specs.Plain.{plain_form}
use Rattle.sy_base.specs.FirstFault.{OfSome}
use Rattle.user_grammar.specs.Finding.{IsLeast, portions_of}
use Rattle.user_grammar.specs.FindingPlaces.{TokensOf}
use Rattle.user_grammar.proofs.fault_tokens.category_fault.Given as goal

abbrev pub invariant-loop-form : goal.invariant-loop-form
invariant-loop-form l =
    IsLeast (OfSome (TokensOf (portions_of l.names.lists)) (map plain_form (map (λ form. form.now) (take l.form-index l.written.forms.now)))) l.found
