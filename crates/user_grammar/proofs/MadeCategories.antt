-- The categories that are made are those of the signature for which the file stands.
use Rattle.std.proofs.Common.{◌≡◌, ℕ, suc, Bool, true, false, List, [], ◌∷◌, ◌++◌, map, Option, None, Some, refl, ap, ◌∙◌, sym, subst}
use Rattle.std.specs.List.{AllByRecursion, AllZip}
use Rattle.sy_base.specs.Tokens.{PlainToken}
use Rattle.binding_terms.specs.Signature.{Signature}
use Rattle.binding_terms.specs.declared.grammar.Cat.{Cat}
use Rattle.binding_terms.specs.declared.grammar.Prod.{Prod}
use Rattle.outline_reader.specs.Plain.{PlainPortion}
use Rattle.user_grammar.specs.File.{WrittenCategory, listed, categories, assumed}
use Rattle.user_grammar.specs.Names.{IsAmong, category_names}
use Rattle.user_grammar.specs.Production.{IsVariable}
use Rattle.user_grammar.specs.Grammar.{IsCategory, AreForms, no_forms, variable, production, AreProductions, IsWritten}
use Rattle.user_grammar.specs.Indexed.{HaveSame}
use Rattle.user_grammar.specs.MadeItems.{IsFirstVariable, IsMadeCategory}

-- a mark is one where it is so by the same fact
mark_once : (one other : Bool) → (one ≡ true → other ≡ true) → (other ≡ true → one ≡ true) → one ≡ other
mark_once true other there back = sym (there refl)
mark_once false true there back = back refl
mark_once false false there back = refl

-- a first form that is no variable changes nothing
later_variable : (texts listed : List (List ℕ)) (form : List PlainToken) (rest : List (List PlainToken)) (var : Option (List ℕ)) → (IsVariable texts listed form → ⊥)
    → IsFirstVariable texts listed (form ∷ rest) var → IsFirstVariable texts listed rest var
later_variable texts listed form rest None not first = first.1
later_variable texts listed form rest (Some name) not first = by_case first.0 first.3 first.4
  where
    by_case : (before : List (List PlainToken)) → form ∷ rest ≡ before ++ (first.1 ∷ []) ∷ first.2
        → AllByRecursion (λ form. IsVariable texts listed form → ⊥) before → IsFirstVariable texts listed rest (Some name)
    by_case [] split none = let same : form ≡ first.1 ∷ [] = cc in absurd (not (subst (IsVariable texts listed) (sym same) first.5))
    by_case (head ∷ before) split none =
        let left : rest ≡ before ++ (first.1 ∷ []) ∷ first.2 = cc in (before, first.1, first.2, left, none.1, first.5, first.6)

-- a first form that is a variable is the first variable
this_variable : (texts listed : List (List ℕ)) (token : PlainToken) (rest : List (List PlainToken)) (var : Option (List ℕ)) → IsVariable texts listed (token ∷ [])
    → IsFirstVariable texts listed ((token ∷ []) ∷ rest) var → var ≡ Some token.text
this_variable texts listed token rest None is first = absurd (first.0 is)
this_variable texts listed token rest (Some name) is first = by_case first.0 first.3 first.4
  where
    by_case : (before : List (List PlainToken)) → (token ∷ []) ∷ rest ≡ before ++ (first.1 ∷ []) ∷ first.2
        → AllByRecursion (λ form. IsVariable texts listed form → ⊥) before → Some name ≡ Some token.text
    by_case [] split none = let same : token ≡ first.1 = cc in ap Some (first.6 ∙ ap (λ (t : PlainToken). t.text) (sym same))
    by_case (form ∷ before) split none = let same : token ∷ [] ≡ form = cc in absurd (none.0 (subst (IsVariable texts listed) same is))

no_first : (texts listed : List (List ℕ)) (var : Option (List ℕ)) → IsFirstVariable texts listed [] var → var ≡ None
no_first texts listed None first = refl
no_first texts listed (Some name) first = absurd (none first.0 first.3)
  where
    none : (before : List (List PlainToken)) → [] ≡ before ++ (first.1 ∷ []) ∷ first.2 → ⊥
    none [] split = cc
    none (form ∷ before) split = cc

pub first_of_forms : {cats : List Cat} {listed : List (List ℕ)} {c : ℕ} {var : Option (List ℕ)} {forms : List (List PlainToken)} {prods : List Prod} (also : Option (List ℕ))
    → AreForms cats listed c var forms prods → IsFirstVariable (category_names cats) listed forms also → also ≡ var
first_of_forms {cats = cats} {listed = listed} also no_forms first = no_first (category_names cats) listed also first
first_of_forms {cats = cats} {listed = listed} also (variable {token = token} {forms = rest} is more) first = this_variable (category_names cats) listed token rest also is first
first_of_forms {cats = cats} {listed = listed} also (production {form = form} {forms = rest} not made more) first =
    first_of_forms also more (later_variable (category_names cats) listed form rest also not first)

-- the same names are assumed
pub made_same : (names listed one other : List (List ℕ)) → HaveSame one other → (written : List WrittenCategory) (cats : List Cat)
    → AllZip (IsMadeCategory names listed one) written cats → AllZip (IsMadeCategory names listed other) written cats
made_same names listed one other same [] [] made = tt
made_same names listed one other same [] (cat ∷ cats) made = absurd made
made_same names listed one other same (w ∷ written) [] made = absurd made
made_same names listed one other same (w ∷ written) (cat ∷ cats) made = (
  record {
    category = record {
      name = made.0.category.name;
      context =
          (λ holds. (same cat.name).0 (made.0.category.context.0 holds), λ among. made.0.category.context.1 ((same cat.name).1 among));
    };
    variable = made.0.variable;
  },
  made_same names listed one other same written cats made.1,
)

made_once : (names listed assumed : List (List ℕ)) (w : WrittenCategory) (cat other : Cat) → IsMadeCategory names listed assumed w cat → IsCategory assumed w other
    → cat.var ≡ other.var → cat ≡ other
made_once names listed assumed w cat other made is var =
    let name : cat.name ≡ other.name = made.category.name ∙ sym is.name in
    let context = mark_once cat.context other.context
    (λ holds. is.context.1 (subst (IsAmong assumed) name (made.category.context.0 holds)))
    (λ holds. made.category.context.1 (subst (IsAmong assumed) (sym name) (is.context.0 holds))) in
    ap (λ (n : List ℕ). record { name = n; var = cat.var; context = cat.context }) name
    ∙ ap (λ (v : Option (List ℕ)). record { name = other.name; var = v; context = cat.context }) var
    ∙ ap (λ (b : Bool). record { name = other.name; var = other.var; context = b }) context

made_categories_from : (all : List Cat) (listed assumed : List (List ℕ)) (c : ℕ) (written : List WrittenCategory) (cats others : List Cat) (prods : List Prod)
    → AllZip (IsMadeCategory (category_names all) listed assumed) written cats → AllZip (IsCategory assumed) written others
    → AreProductions all listed c written (map (λ (cat : Cat). cat.var) others) prods → cats ≡ others
made_categories_from all listed assumed c [] [] [] prods made are stand = refl
made_categories_from all listed assumed c [] [] (other ∷ others) prods made are stand = absurd are
made_categories_from all listed assumed c [] (cat ∷ cats) others prods made are stand = absurd made
made_categories_from all listed assumed c (w ∷ written) [] others prods made are stand = absurd made
made_categories_from all listed assumed c (w ∷ written) (cat ∷ cats) [] prods made are stand = absurd are
made_categories_from all listed assumed c (w ∷ written) (cat ∷ cats) (other ∷ others) prods made are stand =
    let var = first_of_forms cat.var stand.3 made.0.variable in
    let head = made_once (category_names all) listed assumed w cat other made.0 are.0 var in
    let tail = made_categories_from all listed assumed (suc c) written cats others stand.1 made.1 are.1 stand.4 in
    ap (λ (x : Cat). x ∷ cats) head ∙ ap (λ (xs : List Cat). other ∷ xs) tail

pub names_written : (assumed : List (List ℕ)) (written : List WrittenCategory) (cats : List Cat) → AllZip (IsCategory assumed) written cats
    → map (λ (w : WrittenCategory). w.name.text) written ≡ category_names cats
names_written assumed [] [] are = refl
names_written assumed [] (cat ∷ cats) are = absurd are
names_written assumed (w ∷ written) [] are = absurd are
names_written assumed (w ∷ written) (cat ∷ cats) are =
    ap (λ (n : List ℕ). n ∷ map (λ (v : WrittenCategory). v.name.text) written) (sym are.0.name)
    ∙ ap (λ (ns : List (List ℕ)). cat.name ∷ ns) (names_written assumed written cats are.1)

-- the categories that are made are the signature's
pub made_are : (portions : List PlainPortion) (names : List (List ℕ)) (cats : List Cat) (sig : Signature) → IsWritten portions sig
    → names ≡ map (λ (w : WrittenCategory). w.name.text) (categories portions)
    → AllZip (IsMadeCategory names (listed portions) (assumed portions)) (categories portions) cats → cats ≡ sig.cats
made_are portions names cats sig is named made =
    let same = named ∙ names_written (assumed portions) (categories portions) sig.cats is.cats in
    made_categories_from sig.cats (listed portions) (assumed portions) 0 (categories portions) cats sig.cats sig.prods
    (subst (λ ns. AllZip (IsMadeCategory ns (listed portions) (assumed portions)) (categories portions) cats) same made) is.cats is.prods
