-- A file stands for one signature.
use Rattle.std.proofs.Common.{◌≡◌, ℕ, suc, Bool, true, false, List, [], ◌∷◌, ◌++◌, map, Option, refl, ap, ◌∙◌, sym, subst}
use Rattle.std.specs.List.{AllZip}
use Rattle.binding_terms.specs.Signature.{Signature}
use Rattle.binding_terms.specs.declared.grammar.Cat.{Cat}
use Rattle.binding_terms.specs.declared.grammar.Prod.{Prod}
use Rattle.outline_reader.specs.Plain.{PlainPortion}
use Rattle.user_grammar.specs.File.{WrittenCategory, listed, categories, assumed}
use Rattle.user_grammar.specs.Names.{IsAmong, category_names, names, AllApart}
use Rattle.user_grammar.specs.Grammar.{IsCategory, AreProductions, IsWritten}
use Rattle.user_grammar.specs.Laws.{SignaturesAreUnique}
use Rattle.user_grammar.proofs.OneReading.{one_list_of_productions, same_variable}

same_mark : (one other : Bool) → (one ≡ true → other ≡ true) → (other ≡ true → one ≡ true) → one ≡ other
same_mark true true there back = refl
same_mark true false there back = sym (there refl)
same_mark false true there back = back refl
same_mark false false there back = refl

pub written_names : (named : List (List ℕ)) (written : List WrittenCategory) (cats : List Cat) → AllZip (IsCategory named) written cats
    → category_names cats ≡ map (λ (w : WrittenCategory). w.name.text) written
written_names named [] [] zip = refl
written_names named [] (cat ∷ cats) zip = absurd zip
written_names named (w ∷ written) [] zip = absurd zip
written_names named (w ∷ written) (cat ∷ cats) zip =
    ap (λ (n : List ℕ). n ∷ category_names cats) zip.0.name ∙ ap (λ ns. w.name.text ∷ ns) (written_names named written cats zip.1)

same_category : (named : List (List ℕ)) (w : WrittenCategory) (cat other : Cat) → IsCategory named w cat → IsCategory named w other → cat.var ≡ other.var → cat ≡ other
same_category named w cat other one also same =
    let name : cat.name ≡ other.name = one.name ∙ sym also.name in
    let there : cat.context ≡ true → other.context ≡ true = λ is. also.context.1 (subst (IsAmong named) name (one.context.0 is)) in
    let back : other.context ≡ true → cat.context ≡ true = λ is. one.context.1 (subst (IsAmong named) (sym name) (also.context.0 is)) in
    let context : cat.context ≡ other.context = same_mark cat.context other.context there back in
    ap (λ (n : List ℕ). record { name = n; var = cat.var; context = cat.context }) name
    ∙ ap (λ (v : Option (List ℕ)). record { name = other.name; var = v; context = cat.context }) same
    ∙ ap (λ (b : Bool). record { name = other.name; var = other.var; context = b }) context

same_categories : (named : List (List ℕ)) (written : List WrittenCategory) (cats others : List Cat) → AllZip (IsCategory named) written cats → AllZip (IsCategory named) written others
    → map (λ (cat : Cat). cat.var) cats ≡ map (λ (cat : Cat). cat.var) others → cats ≡ others
same_categories named [] [] [] one also same = refl
same_categories named [] [] (other ∷ others) one also same = absurd also
same_categories named [] (cat ∷ cats) others one also same = absurd one
same_categories named (w ∷ written) [] others one also same = absurd one
same_categories named (w ∷ written) (cat ∷ cats) [] one also same = absurd also
same_categories named (w ∷ written) (cat ∷ cats) (other ∷ others) one also same =
    let var : cat.var ≡ other.var = cc in
    let vars : map (λ (cat : Cat). cat.var) cats ≡ map (λ (cat : Cat). cat.var) others = cc in
    ap (λ (c : Cat). c ∷ cats) (same_category named w cat other one.0 also.0 var)
    ∙ ap (λ cs. other ∷ cs) (same_categories named written cats others one.1 also.1 vars)

same_variables : (cats others : List Cat) (names : List (List ℕ)) (n : ℕ) (written : List WrittenCategory) (vars also : List (Option (List ℕ))) (prods again : List Prod)
    → category_names cats ≡ category_names others → AreProductions cats names n written vars prods → AreProductions others names n written also again → vars ≡ also
same_variables cats others names n [] [] [] prods again same one two = refl
same_variables cats others names n [] [] (v ∷ also) prods again same one two = absurd two
same_variables cats others names n [] (v ∷ vars) also prods again same one two = absurd one
same_variables cats others names n (w ∷ written) [] also prods again same one two = absurd one
same_variables cats others names n (w ∷ written) (v ∷ vars) [] prods again same one two = absurd two
same_variables cats others names n (w ∷ written) (v ∷ vars) (u ∷ also) prods again same one two =
    ap (λ x. x ∷ vars) (same_variable same one.3 two.3)
    ∙ ap (λ xs. u ∷ xs) (same_variables cats others names (suc n) written vars also one.1 two.1 same one.4 two.4)

same_productions : (cats : List Cat) (texts : List (List ℕ)) (n : ℕ) (written : List WrittenCategory) (vars also : List (Option (List ℕ))) (prods again : List Prod) → AllApart (names cats)
    → AreProductions cats texts n written vars prods → AreProductions cats texts n written also again → prods ≡ again
same_productions cats texts n [] [] [] prods again apart one two = one ∙ sym two
same_productions cats texts n [] [] (v ∷ also) prods again apart one two = absurd two
same_productions cats texts n [] (v ∷ vars) also prods again apart one two = absurd one
same_productions cats texts n (w ∷ written) [] also prods again apart one two = absurd one
same_productions cats texts n (w ∷ written) (v ∷ vars) [] prods again apart one two = absurd two
same_productions cats texts n (w ∷ written) (v ∷ vars) (u ∷ also) prods again apart one two =
    one.2 ∙ ap (λ ps. ps ++ one.1) (one_list_of_productions cats texts apart one.3 two.3)
    ∙ ap (λ ps. two.0 ++ ps) (same_productions cats texts (suc n) written vars also one.1 two.1 apart one.4 two.4) ∙ sym two.2

-- what a file's parts make is one signature, also where it does not fit
pub one_written : (portions : List PlainPortion) (sig other : Signature) → IsWritten portions sig → IsWritten portions other → sig ≡ other
one_written portions sig other one two =
    let names : category_names sig.cats ≡ category_names other.cats =
    written_names (assumed portions) (categories portions) sig.cats one.cats ∙ sym (written_names (assumed portions) (categories portions) other.cats two.cats) in
    let vars = same_variables sig.cats other.cats (listed portions) 0 (categories portions) (map (λ cat. cat.var) sig.cats) (map (λ cat. cat.var) other.cats) sig.prods other.prods names one.prods two.prods in
    let cats = same_categories (assumed portions) (categories portions) sig.cats other.cats one.cats two.cats vars in
    let again : AreProductions sig.cats (listed portions) 0 (categories portions) (map (λ cat. cat.var) sig.cats) other.prods =
    subst (λ cs. AreProductions cs (listed portions) 0 (categories portions) (map (λ cat. cat.var) cs) other.prods) (sym cats) two.prods in
    let prods = same_productions sig.cats (listed portions) 0 (categories portions) (map (λ cat. cat.var) sig.cats) (map (λ cat. cat.var) sig.cats) sig.prods other.prods one.names.apart one.prods again in
    ap (λ (cs : List Cat). record { cats = cs; prods = sig.prods }) cats ∙ ap (λ (ps : List Prod). record { cats = other.cats; prods = ps }) prods

pub one_signature : SignaturesAreUnique
one_signature portions sig other one two = one_written portions sig other one.written two.written
