-- The file of the typed lambda calculus stands for its signature.
use Rattle.std.proofs.Common.{◌≡◌, ◌≢◌, ◌⊎◌, ◌==◌, slice_index_or, take, drop, ◌&&◌, ℕ, Bool, true, false, IsTrue, List, [], ◌∷◌, ◌++◌, None, Some, inl, inr, refl, ap, ◌∙◌, sym, subst, arith}
use Rattle.std.specs.Prelude.{codes, not, ◌||◌}
use Rattle.std.proofs.lemmas.List.{append-nil}
use Rattle.std.specs.Str.{chars}
use Rattle.unicode_ident.specs.Ident.{is_xid_start}
use Rattle.std.specs.List.{AllZip}
use Rattle.unicode_ident.proofs.IdentLemmas.{is_xid_start-ascii}
use Rattle.sy_base.specs.Tokens.{PlainToken, is_numeral}
use Rattle.binding_terms.specs.declared.grammar.Cat.{Cat}
use Rattle.binding_terms.specs.declared.grammar.Item.{Item}
use Rattle.binding_terms.specs.declared.grammar.Item.TheVariants.{Word, Slot, Binder}
use Rattle.rule_schemes.specs.Reading.{IsSpelling}
use Rattle.rule_schemes.specs.Sums.{cat}
use Rattle.rule_schemes.specs.Lambda.{lambda}
use Rattle.user_grammar.specs.File.{listed, categories, assumed}
use Rattle.user_grammar.specs.Names.{IsAmong, category_names, names, IsNoSpelling, AreApart, HaveNoCommonSpelling}
use Rattle.user_grammar.specs.Production.{IsTerminal, IsVariable, no_brackets, brackets, last_one, AreItems, no_items, terminal, binder, slot, IsProduction}
use Rattle.user_grammar.specs.Grammar.{IsCategory, AreForms, no_forms, variable, production, IsWritten}
use Rattle.user_grammar.specs.Lambda.{word, symbol, mark, function, longer_context, lambda_file}
use Rattle.user_grammar.proofs.Spellings.{apart_names}

-- ---- spellings

-- the text begins with the name
abbrev starts : List ℕ → List ℕ → Bool
starts [] text = true
starts (c ∷ name) [] = false
starts (c ∷ name) (d ∷ text) = (c == d) && starts name text

starts_itself : (name ending : List ℕ) → starts name (name ++ ending) ≡ true
starts_itself [] ending = refl
starts_itself (c ∷ name) ending = let same : (c == c) ≡ true = grind arith in rw same (starts_itself name ending)

unspelled : (name text : List ℕ) → starts name text ≡ false → IsSpelling name text → ⊥
unspelled name text other spells = let never : false ≡ true = sym other ∙ ap (starts name) spells.1 ∙ starts_itself name spells.0 in cc

apart : (one other : List ℕ) → starts one other ≡ false → starts other one ≡ false → AreApart one other
apart one other first second = apart_names one other (unspelled one other first) (unspelled other one second)

-- texts of other lengths or with other first characters differ
unlike : (one other : List ℕ) → starts one other ≡ false → one ≢ other
unlike one other first same = let never : false ≡ true = sym first ∙ ap (starts one) (sym same ∙ sym (append-nil one)) ∙ starts_itself one [] in cc

no_numeral : IsTrue (is_numeral (codes "x")) → ⊥
unfolding is_numeral chars
no_numeral is =
    let start : is_xid_start 120 ≡ true = is_xid_start-ascii 120 (omega arith) in
    let never : false ≡ true = subst (λ (b : Bool). not (b || false) ≡ true) start is in
    cc

-- ---- what is declared

-- the listed terminals, and the names of the categories and of the variable
abbrev texts : List (List ℕ)
texts = listed lambda_file

abbrev cats : List Cat
cats = lambda.cats

not_gamma_T : codes "Gamma" ≢ codes "T"
not_gamma_T = unlike (codes "Gamma") (codes "T") refl

not_gamma_t : codes "Gamma" ≢ codes "t"
not_gamma_t = unlike (codes "Gamma") (codes "t") refl

one_of : (text other : List ℕ) → text ≢ other → (text ≡ other) ⊎ ⊥ → ⊥
one_of text other differ (inl same) = differ same
one_of text other differ (inr never) = never

are_categories : AllZip (IsCategory (assumed lambda_file)) (categories lambda_file) cats
are_categories = (
  record { name = refl; context = (λ is. (let never : false ≡ true = is in cc), λ among. absurd (one_of (codes "Gamma") (codes "T") not_gamma_T among)) },
  (
    record { name = refl; context = (λ is. (let never : false ≡ true = is in cc), λ among. absurd (one_of (codes "Gamma") (codes "t") not_gamma_t among)) },
    (record { name = refl; context = (λ is. inl refl, λ among. refl) }, tt),
  ),
)

no_spelling : (text : List ℕ) → starts (codes "T") text ≡ false → starts (codes "t") text ≡ false → starts (codes "Gamma") text ≡ false → starts (codes "x") text ≡ false
    → IsNoSpelling (names cats) text
no_spelling text first second third fourth =
    (unspelled (codes "T") text first, (unspelled (codes "t") text second, (unspelled (codes "Gamma") text third, (unspelled (codes "x") text fourth, tt))))

no_common_spelling : HaveNoCommonSpelling (names cats) texts
no_common_spelling = record {
  apart = (
    (apart (codes "T") (codes "t") refl refl, (apart (codes "T") (codes "Gamma") refl refl, (apart (codes "T") (codes "x") refl refl, tt))),
    ((apart (codes "t") (codes "Gamma") refl refl, (apart (codes "t") (codes "x") refl refl, tt)), ((apart (codes "Gamma") (codes "x") refl refl, tt), (tt, tt))),
  );
  no_spellings =
      (no_spelling (codes "fn") refl refl refl refl, (no_spelling (codes "unit") refl refl refl refl, (no_spelling (codes "value") refl refl refl refl, tt)));
  different = ((unlike (codes "fn") (codes "unit") refl, (unlike (codes "fn") (codes "value") refl, tt)), ((unlike (codes "unit") (codes "value") refl, tt), (tt, tt)));
}

-- ---- items

known : (text : List ℕ) → IsAmong texts text → starts (40 ∷ []) text ≡ false → starts (41 ∷ []) text ≡ false → IsTerminal texts (word text)
known text is first second = record {
  may_be = inl refl;
  word = λ kind. inl is;
  not_open = λ same. unlike (40 ∷ []) text first (sym same);
  not_close = λ same. unlike (41 ∷ []) text second (sym same);
}

sign : (text : List ℕ) → starts (124 ∷ []) text ≡ false → starts (40 ∷ []) text ≡ false → starts (41 ∷ []) text ≡ false → IsTerminal texts (symbol text)
sign text bar first second = record {
  may_be = inr (inl (refl, λ same. unlike (124 ∷ []) text bar (sym same)));
  word = λ kind. absurd (let never : ⊥ = omega (arith, kind) in never);
  not_open = λ same. unlike (40 ∷ []) text first (sym same);
  not_close = λ same. unlike (41 ∷ []) text second (sym same);
}

comma : IsTerminal texts (mark (codes ","))
comma = record {
  may_be = inr (inr (inl (refl, unlike (codes ",") (40 ∷ []) refl, unlike (codes ",") (41 ∷ []) refl, unlike (codes ",") (91 ∷ []) refl, unlike (codes ",") (93 ∷ []) refl)));
  word = λ kind. absurd (let never : ⊥ = omega (arith, kind) in never);
  not_open = unlike (codes ",") (40 ∷ []) refl;
  not_close = unlike (codes ",") (41 ∷ []) refl;
}

no_word : (kind : ℕ) (text : List ℕ) → (kind == 0) ≡ false → kind ≡ 0 → IsNoSpelling (names cats) text
no_word kind text other is = absurd (let e : (kind == 0) ≡ true = rw is refl in let never : false ≡ true = sym other ∙ e in cc)

unit_production : (c : ℕ) → IsProduction cats texts c (word (codes "unit") ∷ []) (record { cat = record { 0 = c }; items = Word (codes "unit") false ∷ [] })
unit_production c = record {
  words = [];
  cat = refl;
  items = terminal (known (codes "unit") (inr (inl refl)) refl refl) (λ kind. no_spelling (codes "unit") refl refl refl refl) no_items;
  different = tt;
}

T_slot : {own words : List (List ℕ)} {tokens : List PlainToken} {items : List Item} → AreItems cats texts own tokens items words
    → AreItems cats texts own (word (codes "T") ∷ tokens) (Slot (cat 0) [] ∷ items) words
T_slot rest = slot {c = cat 0} refl ([], refl, tt) no_brackets tt rest

t_slot : {own words : List (List ℕ)} {tokens : List PlainToken} {items : List Item} → AreItems cats texts own tokens items words
    → AreItems cats texts own (word (codes "t") ∷ tokens) (Slot (cat 1) [] ∷ items) words
t_slot rest = slot {c = cat 1} refl ([], refl, tt) no_brackets tt rest

x_binder : {own words : List (List ℕ)} {tokens : List PlainToken} {items : List Item} → AreItems cats texts own tokens items words
    → AreItems cats texts own (word (codes "x") ∷ tokens) (Binder (cat 1) ∷ items) (codes "x" ∷ words)
x_binder rest = binder {c = cat 1} refl ([], refl, tt) rest

symbol_item : {own words : List (List ℕ)} {tokens : List PlainToken} {items : List Item} (text : List ℕ) → starts (124 ∷ []) text ≡ false → starts (40 ∷ []) text ≡ false
    → starts (41 ∷ []) text ≡ false → AreItems cats texts own tokens items words → AreItems cats texts own (symbol text ∷ tokens) (Word text false ∷ items) words
symbol_item text bar first second rest = terminal (sign text bar first second) (no_word 1 text refl) rest

-- ---- the forms of the categories

unit_is_listed : IsAmong texts (codes "unit")
unit_is_listed = inr (inl refl)

no_unit_variable : IsVariable (category_names cats) texts (word (codes "unit") ∷ []) → ⊥
no_unit_variable is = is.2 unit_is_listed

T_forms : AreForms cats texts 0 None ((word (codes "unit") ∷ []) ∷ (word (codes "T") ∷ symbol (codes "->") ∷ word (codes "T") ∷ []) ∷ []) (take 2 lambda.prods)
T_forms =
    production no_unit_variable (unit_production 0)
    (production (λ is. is) (record { words = []; cat = refl; items = T_slot (symbol_item (codes "->") refl refl refl (T_slot no_items)); different = tt }) no_forms)

fn_items : AreItems cats texts (codes "x" ∷ []) function (slice_index_or lambda.prods 2 (record { cat = cat 0; items = [] })).items (codes "x" ∷ [])
fn_items =
    terminal (known (codes "fn") (inl refl) refl refl) (λ kind. no_spelling (codes "fn") refl refl refl refl)
    (x_binder
    (symbol_item (codes ":") refl refl refl
    (T_slot
    (symbol_item (codes "=>") refl refl refl
    (slot {c = cat 1} {bound = codes "x" ∷ []} {binds = 0 ∷ []} refl ([], refl, tt) (brackets (refl, refl) (last_one refl (refl, refl) no_brackets)) (refl, tt) no_items)))))

x_is_variable : IsVariable (category_names cats) texts (word (codes "x") ∷ [])
x_is_variable = (
  refl,
  no_numeral,
  not_listed,
  (unspelled (codes "T") (codes "x") refl, (unspelled (codes "t") (codes "x") refl, (unspelled (codes "Gamma") (codes "x") refl, tt))),
)
  where
    not_listed : IsAmong texts (codes "x") → ⊥
    not_listed (inl same) = unlike (codes "fn") (codes "x") refl same
    not_listed (inr (inl same)) = unlike (codes "unit") (codes "x") refl same
    not_listed (inr (inr (inl same))) = unlike (codes "value") (codes "x") refl same
    not_listed (inr (inr (inr never))) = never

t_forms : AreForms cats texts 1 (Some (codes "x")) (function ∷ (word (codes "t") ∷ word (codes "t") ∷ []) ∷ (word (codes "x") ∷ []) ∷ (word (codes "unit") ∷ []) ∷ []) (take 3 (drop 2 lambda.prods))
t_forms =
    production (λ is. is) (record { words = codes "x" ∷ []; cat = refl; items = fn_items; different = (tt, tt) })
    (production (λ is. is) (record { words = []; cat = refl; items = t_slot (t_slot no_items); different = tt })
    (variable x_is_variable (production no_unit_variable (unit_production 1) no_forms)))

star_is_no_variable : IsVariable (category_names cats) texts (symbol (codes "*") ∷ []) → ⊥
star_is_no_variable is = absurd (let never : ⊥ = omega (arith, is.0) in never)

context_items : AreItems cats texts (codes "x" ∷ []) longer_context (slice_index_or lambda.prods 6 (record { cat = cat 0; items = [] })).items (codes "x" ∷ [])
context_items =
    slot {c = cat 2} refl ([], refl, tt) no_brackets tt
    (terminal comma (no_word 2 (codes ",") refl) (x_binder (symbol_item (codes ":") refl refl refl (T_slot no_items))))

Gamma_forms : AreForms cats texts 2 None ((symbol (codes "*") ∷ []) ∷ longer_context ∷ []) (drop 5 lambda.prods)
Gamma_forms =
    production star_is_no_variable (record { words = []; cat = refl; items = symbol_item (codes "*") refl refl refl no_items; different = tt })
    (production (λ is. is) (record { words = codes "x" ∷ []; cat = refl; items = context_items; different = (tt, tt) }) no_forms)

pub lambda_is_written : IsWritten lambda_file lambda
lambda_is_written = record {
  cats = are_categories;
  assumed = (inr (inr (inl refl)), tt);
  names = no_common_spelling;
  prods = (
    take 2 lambda.prods,
    drop 2 lambda.prods,
    refl,
    T_forms,
    (take 3 (drop 2 lambda.prods), drop 5 lambda.prods, refl, t_forms, (drop 5 lambda.prods, [], refl, Gamma_forms, refl)),
  );
}
