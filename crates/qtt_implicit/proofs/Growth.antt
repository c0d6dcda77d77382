-- Items that are filled one by one.
use Rattle.std.proofs.Common.{◌≡◌, ◌∙◌, refl, ap, sym, subst, append_assoc, ℕ, ◌+◌, ◌-◌, nat_le, Bool, true, false, List, [], ◌∷◌, ◌++◌, Result, Ok, Err}
use Rattle.std.specs.Prelude.{if◌then◌else◌}
use Rattle.std.proofs.lemmas.List.{append-nil}
use mathlib.Core.Path.{ap₂}
use Rattle.qtt_syntax.specs.Tree.{Con, Item, Param}
use Rattle.qtt_names.specs.Exports.{Sig}
use Rattle.qtt_implicit.specs.Answering.{IsRefusal, counted_item}
use Rattle.qtt_implicit.specs.Filled.{Filled, Grown, Refusal, and_item, filled_item, filled_items, grown, item_nodes, item_then, place_of, walk_cons, walk_item, walk_params, with_own}
use Rattle.qtt_implicit.specs.Filling.{Stop, goes_on, ◌>>=◌}
use Rattle.std.specs.Result.{IsErrAnd}
use Rattle.qtt_implicit.specs.Growing.{Grows, grown as grown_item}
use Rattle.qtt_implicit.specs.Known.{Known}
use Rattle.qtt_implicit.specs.Meeting.{IsStop}
use Rattle.qtt_implicit.specs.Walk.{Types}
use Rattle.qtt_implicit.specs.declared.filling.stop.Stop as stop_code
use Rattle.qtt_implicit.specs.declared.filling.texts.ImplicitError.{ImplicitError}
use Rattle.qtt_implicit.specs.declared.filling.texts.ImplicitError.TheVariants as code

-- ---- one item
abbrev nothing : Unit {0}
nothing = tt

pub counted_is : (limit : ℕ) (K : Known) (i : Item) →
    grown limit (place_of i) (counted_item K i limit) ≡ filled_item limit K i
unfolding ◌>>=◌
counted_is limit K i = by (nat_le (item_nodes i) limit)
  where
    by : (b : Bool) →
        grown limit (place_of i) (goes_on (if b then Ok (nothing, limit - item_nodes i) else Err Stop.too_large)
        (λ added. walk_item K i)) ≡
        (if b then grown limit (place_of i) (walk_item K i (limit - item_nodes i))
        else Err (Refusal.too_large (limit + 1) (place_of i)))
    by true = refl
    by false = refl

-- ---- refusals of equal answers
pub refusal_at : {A : Type 0} (e : ImplicitError) {o p : Result A Refusal} → o ≡ p → IsRefusal e p → IsRefusal e o
refusal_at e same h = subst (IsRefusal e) (sym same) h

-- a refusal of an item is one of the items
pub refused_item : (e : ImplicitError) (o : Result Grown Refusal) (f : Grown → Result Filled Refusal) →
    IsRefusal e o → IsRefusal e (item_then o f)
refused_item (code.Unsolved n s) o f h = ap (λ r. item_then r f) h
refused_item (code.Braces k m s) o f h = ap (λ r. item_then r f) h
refused_item (code.TooLarge n s) o f h = ap (λ r. item_then r f) h
refused_item code.Memory o f h = tt

-- ---- items behind others
abbrev pub behind_items : List Item → Result Filled Refusal → Result Filled Refusal
behind_items [] r = r
behind_items (i ∷ is) r = and_item i (behind_items is r)

and_refused : (e : ImplicitError) (i : Item) (o : Result Filled Refusal) → IsRefusal e o → IsRefusal e (and_item i o)
and_refused (code.Unsolved n s) i o h = ap (and_item i) h
and_refused (code.Braces k m s) i o h = ap (and_item i) h
and_refused (code.TooLarge n s) i o h = ap (and_item i) h
and_refused code.Memory i o h = tt

pub behind_refused : (e : ImplicitError) (is : List Item) (o : Result Filled Refusal) → IsRefusal e o →
    IsRefusal e (behind_items is o)
behind_refused e [] o h = h
behind_refused e (i ∷ is) o h = and_refused e i (behind_items is o) (behind_refused e is o h)

pub one_more_behind : (is : List Item) (i : Item) (r : Result Filled Refusal) →
    behind_items is (and_item i r) ≡ behind_items (is ++ i ∷ []) r
one_more_behind [] i r = refl
one_more_behind (j ∷ is) i r = ap (and_item j) (one_more_behind is i r)

pub all_behind : (is : List Item) (own : List (List ℕ × Sig)) →
    behind_items is (Ok (record { items = []; own = own })) ≡ Ok (record { items = is; own = own })
all_behind [] own = refl
all_behind (i ∷ is) own = ap (and_item i) (all_behind is own)

-- one more item is filled
pub one_more_filled : (limit : ℕ) (K L : Known) (whole : Result Filled Refusal) (is : List Item) (i j : Item)
    (own : List (List ℕ × Sig)) (rest : List Item) →
    whole ≡ behind_items is (filled_items limit K (i ∷ rest)) → filled_item limit K i ≡ Ok (grown_item j own) →
    L ≡ with_own own K → whole ≡ behind_items (is ++ j ∷ []) (filled_items limit L rest)
one_more_filled limit K L whole is i j own rest e h known =
    e
    ∙ ap (λ (o : Result Grown Refusal). behind_items is
    (item_then o (λ g. filled_items limit (with_own g.own K) rest))) h
    ∙ one_more_behind is j (filled_items limit (with_own own K) rest)
    ∙ ap (λ (M : Known). behind_items (is ++ j ∷ []) (filled_items limit M rest)) (sym known)

-- the next item is refused
pub next_refused : (limit : ℕ) (K : Known) (whole : Result Filled Refusal) (is : List Item) (i : Item)
    (rest : List Item) (e : ImplicitError) → whole ≡ behind_items is (filled_items limit K (i ∷ rest)) →
    IsRefusal e (filled_item limit K i) → IsRefusal e whole
next_refused limit K whole is i rest e same h =
    refusal_at e same (behind_refused e is (filled_items limit K (i ∷ rest))
    (refused_item e (filled_item limit K i) (λ g. filled_items limit (with_own g.own K) rest) h))

-- ---- own items
pub none_added : (K : Known) → K ≡ with_own [] K
none_added K = ap (λ (own : List (List ℕ × Sig)). record K { own = own }) (sym (append-nil K.own))

pub all_added : (xs ys : List (List ℕ × Sig)) (K : Known) → with_own ys (with_own xs K) ≡ with_own (xs ++ ys) K
all_added xs ys K =
    ap (λ (own : List (List ℕ × Sig)). record K { own = own }) (append_assoc K.own xs ys)

-- ---- an item, or a stop
pub grows_exits : {X : Type 0} (view : X → Item) (K L : Known) (r : Result X stop_code.Stop)
    (x : stop_code.Stop) (o : Result (Grown × ℕ) Stop) (left : ℕ) → IsErrAnd r (λ e. e ≡ x) → IsStop x o →
    Grows view K r L o left
grows_exits view K L (Ok v) x o left e h = absurd e
grows_exits view K L (Err e) x o left same h = subst (λ z. IsStop z o) (sym same) h

pub grows_at : {X : Type 0} (view : X → Item) (K L : Known) (r : Result X stop_code.Stop) (left : ℕ)
    {o p : Result (Grown × ℕ) Stop} → o ≡ p → Grows view K r L p left → Grows view K r L o left
grows_at view K L r left e h = subst (λ z. Grows view K r L z left) (sym e) h

pub same_params : (ps : List Param) (l : ℕ) {K L : Known} {Γ Δ : Types} → K ≡ L → Γ ≡ Δ →
    walk_params K Γ ps l ≡ walk_params L Δ ps l
same_params ps l e f = ap₂ (λ (k : Known) (g : Types). walk_params k g ps l) e f

pub same_cons : (cs : List Con) (Γ : Types) (l : ℕ) {K L : Known} → K ≡ L → walk_cons K Γ cs l ≡ walk_cons L Γ cs l
same_cons cs Γ l e = ap (λ (k : Known). walk_cons k Γ cs l) e
