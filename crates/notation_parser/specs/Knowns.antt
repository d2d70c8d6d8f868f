-- The words of known variables.
use Rattle.std.specs.Prelude.{List, [], ◌∷◌, slice_index}
use Rattle.binding_terms.specs.Signature.{Signature}
use Rattle.binding_terms.specs.declared.grammar.CatId.{CatId}
use Rattle.binding_terms.specs.declared.text.Text.{Text}
use Rattle.scheme_terms.specs.Context.{variables}
use Rattle.scheme_terms.specs.Forms.{KnownVariable}

-- each one's name, with the category of its entry's variable
abbrev pub known_texts : Signature → List KnownVariable → List (Text × CatId)
known_texts sig [] = []
known_texts sig (k ∷ ks) = (k.name, record { 0 = slice_index (variables sig k.entry.prod) 0 }) ∷ known_texts sig ks
