-- The signature for which a file stands. To be held against 'Grammar' of docs/notation.md.
use Rattle.std.specs.Prelude.{◌≡◌, ◌↔◌, ℕ, suc, true, List, [], ◌∷◌, ◌++◌, map, Option, None, Some}
use Rattle.std.specs.List.{AllByRecursion, AllZip}
use Rattle.sy_base.specs.Tokens.{PlainToken}
use Rattle.binding_terms.specs.Signature.{Signature, Fits}
use Rattle.binding_terms.specs.declared.grammar.Cat.{Cat}
use Rattle.binding_terms.specs.declared.grammar.Prod.{Prod}
use Rattle.outline_reader.specs.Plain.{PlainPortion}
use Rattle.user_grammar.specs.File.{WrittenCategory, listed, categories, assumed}
use Rattle.user_grammar.specs.Names.{IsAmong, category_names, names, HaveNoCommonSpelling}
use Rattle.user_grammar.specs.Production.{IsProduction, IsVariable}

-- the category has the written name, and is one of contexts exactly where it is assumed
pub record IsCategory (assumed : List (List ℕ)) (written : WrittenCategory) (cat : Cat) : Type 0 where
  pub name : cat.name ≡ written.name.text
  pub context : (cat.context ≡ true) ↔ IsAmong assumed cat.name

-- The forms of the category with this number: at most one is its variable, and the others are its productions, in text order.
pub data AreForms (cats : List Cat) (listed : List (List ℕ)) (c : ℕ) : Option (List ℕ) → List (List PlainToken) → List Prod → Type 0 where
  no_forms : AreForms cats listed c None [] []
  variable : {token : PlainToken} {forms : List (List PlainToken)} {prods : List Prod} →
      IsVariable (category_names cats) listed (token ∷ []) → AreForms cats listed c None forms prods →
      AreForms cats listed c (Some token.text) ((token ∷ []) ∷ forms) prods
  production : {var : Option (List ℕ)} {form : List PlainToken} {forms : List (List PlainToken)} {prod : Prod} {prods : List Prod} →
      (IsVariable (category_names cats) listed form → ⊥) → IsProduction cats listed c form prod → AreForms cats listed c var forms prods →
      AreForms cats listed c var (form ∷ forms) (prod ∷ prods)

-- the forms of the categories from the one with this number on, with their variables
abbrev pub AreProductions : (cats : List Cat) (listed : List (List ℕ)) (c : ℕ) → List WrittenCategory → (vars : List (Option (List ℕ))) → List Prod → Type 0
AreProductions cats listed c [] [] prods = prods ≡ []
AreProductions cats listed c (written ∷ rest) (var ∷ vars) prods =
    (first : List Prod) × (others : List Prod) × (prods ≡ first ++ others)
    × AreForms cats listed c var written.forms first × AreProductions cats listed (suc c) rest vars others
AreProductions cats listed c _ _ prods = ⊥

-- The signature that the listed terminals, the written categories and the assumed names make, which need not fit yet.
pub record IsWritten (portions : List PlainPortion) (sig : Signature) : Type 0 where
  pub cats : AllZip (IsCategory (assumed portions)) (categories portions) sig.cats
  pub assumed : AllByRecursion (IsAmong (category_names sig.cats)) (assumed portions)
  pub names : HaveNoCommonSpelling (names sig.cats) (listed portions)
  pub prods : AreProductions sig.cats (listed portions) 0 (categories portions) (map (λ cat. cat.var) sig.cats) sig.prods

-- the signature for which a file stands, which it does exactly where its grammar has no fault
pub record IsSignatureOf (portions : List PlainPortion) (sig : Signature) : Type 0 where
  pub written : IsWritten portions sig
  pub fits : Fits sig
