-- Entries and their arguments, one step on.
use Rattle.std.proofs.Common.{◌≡◌, ℕ, zero, suc, ◌+◌, List, [], ◌∷◌, ◌++◌, length, map, reverse, drop, Option, Some, None, option_map, unwrap_or, refl, ap, sym, ◌∙◌, add-one}
use Rattle.std.proofs.lemmas.List.{map-append, reverse-append, length-map}
use Rattle.binding_terms.specs.Signature.{Signature}
use Rattle.binding_terms.specs.declared.grammar.CatId.{CatId}
use Rattle.binding_terms.specs.declared.term.Term.{Term}
use Rattle.scheme_terms.specs.View.{context_value, ground_entry}
use Rattle.scheme_terms.specs.declared.scheme.Entry.{Entry}
use Rattle.scheme_terms.specs.declared.scheme.CtxValue.{CtxValue}
use Rattle.rule_schemes.specs.Printing as printing
use Rattle.rule_schemes.specs.Printing.{empty_form, entries_tokens, no_labels, plain_entry, value_tokens}
use Rattle.derivation_text.specs.declared.page.Page.{Page}
use Rattle.derivation_text.specs.declared.words.Variable as words
use Rattle.derivation_text.specs.Page.{written}
use Rattle.derivation_text.specs.View.{variable, variables, plain_entries, terms_tokens}
use Rattle.derivation_text.proofs.Pages.{written_twice}

args_suc : (sig : Signature) (vs : List printing.Variable) (ts : List Term) (n : ℕ)
    → drop 1 (terms_tokens sig vs (drop n ts)) ≡ terms_tokens sig vs (drop (suc n) ts)
args_suc sig vs [] zero = refl
args_suc sig vs [] (suc n) = refl
args_suc sig vs (t ∷ ts) zero = refl
args_suc sig vs (t ∷ ts) (suc n) = args_suc sig vs ts n

pub args_more : (sig : Signature) (vs : List printing.Variable) (ts : List Term) (n : ℕ)
    → drop 1 (terms_tokens sig vs (drop n ts)) ≡ terms_tokens sig vs (drop (n + 1) ts)
args_more sig vs ts n = args_suc sig vs ts n ∙ ap (λ k. terms_tokens sig vs (drop k ts)) (sym (add-one n))

-- the variables of a scope that is turned round
pub variables_reverse : (vs : List words.Variable) → variables (reverse vs) ≡ reverse (variables vs)
variables_reverse [] = refl
variables_reverse (v ∷ vs) =
    ap variables (reverse-append (v ∷ []) vs)
    ∙ (map-append variable (reverse vs) (v ∷ [])
    ∙ (ap (λ ws. ws ++ variable v ∷ []) (variables_reverse vs) ∙ sym (reverse-append (variable v ∷ []) (variables vs))))

-- the start of a context and its entries are the context
pub value_written : (p q r : Page) (sig : Signature) (v : CtxValue)
    → q ≡ written p (unwrap_or (option_map (λ c. empty_form sig c.0) v.cat) [])
    → r ≡ written q (entries_tokens sig no_labels [] (plain_entries v.entries)) → r ≡ written p (value_tokens sig (context_value v))
value_written p q r sig v start rest =
    rest ∙ ((λ k. written (start k) (entries_tokens sig no_labels [] (plain_entries v.entries)))
    ∙ (written_twice p _ _ ∙ ap (λ ts. written p (ts ++ entries_tokens sig no_labels [] (plain_entries v.entries))) (start_same v.cat)))
  where
    start_same : (cat : Option CatId) → unwrap_or (option_map (λ c. empty_form sig c.0) cat) [] ≡ unwrap_or (option_map (empty_form sig) (option_map (λ c. c.0) cat)) []
    start_same None = refl
    start_same (Some c) = refl

drop_ground : (n : ℕ) (es : List Entry) → map ground_entry (drop n es) ≡ drop n (map ground_entry es)
drop_ground zero es = refl
drop_ground (suc n) [] = refl
drop_ground (suc n) (e ∷ es) = drop_ground n es

-- the entries of a context after those of the root
pub entries_after_root : (root value : CtxValue)
    → plain_entries (drop (length root.entries) value.entries)
    ≡ map plain_entry (drop (length (context_value root).entries) (context_value value).entries)
entries_after_root root value =
    ap (map plain_entry)
    (drop_ground (length root.entries) value.entries
    ∙ ap (λ n. drop n (map ground_entry value.entries)) (sym (length-map root.entries ground_entry)))
