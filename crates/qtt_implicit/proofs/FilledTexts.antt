-- A text, from its items.
use Rattle.std.proofs.Common.{◌≡◌, ◌∙◌, ap, refl, subst, sym, ℕ, ◌+◌, ◌<◌, ◌≤◌, add-one, List, [], ◌∷◌, ◌++◌, map, length, drop, get_or, Result, Ok, Err}
use Rattle.std.proofs.Math.Seq.{drop-cons}
use Rattle.std.proofs.lemmas.List.{drop_all, map-append}
use mathlib.Core.Path.{ap₂}
use Rattle.qtt_syntax.specs.View.{item_of}
use Rattle.qtt_syntax.specs.declared.module.Item as item_code
use Rattle.qtt_base.specs.declared.place.Span.{Span}
use Rattle.qtt_syntax.specs.Tree.{Item, Module}
use Rattle.qtt_syntax.specs.Tree.Module.{module_text}
use Rattle.qtt_syntax.specs.declared.module.Import.{Import}
use Rattle.qtt_names.specs.Exports.{Sig}
use Rattle.std.specs.Global.{Global}
use Rattle.std.specs.Prelude.{Vec}
use Rattle.std.specs.Result.{IsErrAnd}
use Rattle.qtt_implicit.specs.Answering.{Answers, FillsAll, IsRefusal, sig_of_own}
use Rattle.qtt_implicit.specs.Known.{Known}
use Rattle.qtt_implicit.specs.declared.filling.texts.FilledText as text_code
use Rattle.qtt_implicit.specs.Filled.{Filled, FilledText, Refusal, with_items}
use Rattle.qtt_implicit.specs.OwnItems.{own_of}
use Rattle.qtt_implicit.specs.declared.filling.own_items.OwnItem.{OwnItem}
use Rattle.qtt_implicit.specs.declared.filling.texts.ImplicitError.{ImplicitError}
use Rattle.qtt_implicit.specs.declared.filling.texts.ImplicitError.TheVariants as code

pub sigs_of_own : (own : List OwnItem) → map (λ (o : List ℕ × Sig). o.1) (map own_of own) ≡ map sig_of_own own
sigs_of_own [] = refl
sigs_of_own (o ∷ own) = ap (λ (ss : List Sig). sig_of_own o ∷ ss) (sigs_of_own own)

pub text_refused : (e : ImplicitError) (f : List Item → Module) (o : Result Filled Refusal) → IsRefusal e o →
    IsRefusal e (with_items f o)
text_refused (code.Unsolved n s) f o h = ap (with_items f) h
text_refused (code.Braces k m s) f o h = ap (with_items f) h
text_refused (code.TooLarge n s) f o h = ap (with_items f) h
text_refused code.Memory f o h = tt

-- equal parts of a filled text
abbrev pub text_with : Span → Span → List Item → List ℕ → List Import → List Sig → Result FilledText Refusal
text_with h ns items n is ss = Ok (record { text = module_text h n ns is items; sigs = ss })

pub same_text : (h ns : Span) (items : List Item) (n m : List ℕ) (is js : List Import) (ss ts : List Sig) → n ≡ m →
    is ≡ js → ss ≡ ts → text_with h ns items n is ss ≡ text_with h ns items m js ts
same_text h ns items n m is js ss ts e f g =
    ap₂ (λ a b. text_with h ns items a b ss) e f ∙ ap (text_with h ns items m js) g

-- ---- items in turn
pub next_item : (xs : List item_code.Item) (i : ℕ) (x : item_code.Item) → i < length xs → x ≡ get_or xs i x →
    map item_of (drop i xs) ≡ item_of x ∷ map item_of (drop (i + 1) xs)
next_item xs i x h e =
    ap (map item_of) (drop-cons xs i x h)
    ∙ ap₂ (λ (a : item_code.Item) (j : ℕ). item_of a ∷ map item_of (drop j xs)) (sym e) (sym (add-one i))

pub items_more : (xs : List item_code.Item) (x : item_code.Item) (ys : List item_code.Item) → ys ≡ xs ++ x ∷ [] →
    map item_of ys ≡ map item_of xs ++ item_of x ∷ []
items_more xs x ys e = ap (map item_of) e ∙ map-append item_of xs (x ∷ [])

pub items_left : (xs : List item_code.Item) (i : ℕ) → length xs ≤ i → map item_of (drop i xs) ≡ []
items_left xs i h = ap (map item_of) (drop_all i xs h)

-- ---- what a `?` hands on
pub items_exit : (r : Result (Vec item_code.Item Global) ImplicitError) (L : Known) (e : ImplicitError)
    (o : Result Filled Refusal) → IsErrAnd r (λ x. x ≡ e) → IsRefusal e o → FillsAll r L o
items_exit (Ok v) L e o same h = absurd same
items_exit (Err x) L e o same h = subst (λ y. IsRefusal y o) (sym same) h

pub text_exit : (r : Result text_code.FilledText ImplicitError) (e : ImplicitError) (o : Result FilledText Refusal) →
    IsErrAnd r (λ x. x ≡ e) → IsRefusal e o → Answers r o
text_exit (Ok v) e o same h = absurd same
text_exit (Err x) e o same h = subst (λ y. IsRefusal y o) (sym same) h
