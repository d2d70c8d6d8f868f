-- The grammar `e ::= e + e | a` and the form `a + a + a`, by which the definition of readings is tried.
use Rattle.std.proofs.Common.{ℕ, List, [], ◌∷◌}
use Rattle.std.specs.Prelude.{false, None, codes}
use Rattle.binding_terms.specs.Signature.{Signature}
use Rattle.binding_terms.specs.declared.grammar.Item.{Item}
use Rattle.binding_terms.specs.declared.grammar.Item.TheVariants.{Word, Slot}
use Rattle.scheme_terms.specs.SchemeTree.{SchemeTree, con, no_parts, part}
use Rattle.scheme_terms.specs.declared.scheme.Root.TheVariants.{Closed}
use Rattle.rule_schemes.specs.Reading.{Token, word, ReadsTerm, not_fresh, ReadingScope}
use Rattle.rule_schemes.specs.Sums.{cat}

abbrev pub symbol : List ℕ → Token
symbol text = (1, text)

-- e ::= e + e | a
abbrev pub e_slot : Item
e_slot = Slot (cat 0) []

abbrev pub plus_a : Signature
plus_a =
    record {
      cats = record { name = codes "e"; var = None; context = false } ∷ [];
      prods = record { cat = cat 0; items = e_slot ∷ (Word (codes "+") false ∷ (e_slot ∷ [])) } ∷ (record { cat = cat 0; items = Word (codes "a") false ∷ [] } ∷ []);
    }

abbrev pub a : Token
a = word (codes "a")

abbrev pub p : Token
p = symbol (codes "+")

abbrev pub reads_e : List Token → SchemeTree → Type 0
reads_e tokens s = ReadsTerm plus_a [] [] 0 tokens s

abbrev pub a_tree : SchemeTree
a_tree = con 1 no_parts

abbrev pub sum_tree : SchemeTree → SchemeTree → SchemeTree
sum_tree s t = con 0 (part 0 s (part 0 t no_parts))

abbrev pub three : List Token
three = a ∷ (p ∷ (a ∷ (p ∷ (a ∷ []))))

abbrev pub nothing : ReadingScope
nothing = record { names = record { root = Closed; metas = []; knowns = [] }; vars = []; fresh = not_fresh }
