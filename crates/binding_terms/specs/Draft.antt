-- The signature that categories and productions make, before they are known to fit.
use Rattle.binding_terms.specs.Signature.{Signature}
use Rattle.binding_terms.specs.declared.fitting.Draft.{Draft}

abbrev pub drafted : Draft → Signature
drafted d = record { cats = d.cats.now; prods = d.prods.now }
