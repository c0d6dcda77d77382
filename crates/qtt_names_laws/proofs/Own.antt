-- The own items of a text, as they are looked up.
use Rattle.std.proofs.Common.{◌≡◌, ℕ, zero, suc, ◌+◌, ◌≤◌, Bool, true, false, cond, List, [], ◌∷◌, ◌++◌, map, take, is_some, Option, Some, None, refl, sym, ap, ◌∙◌, subst, arith}
use Rattle.std.specs.List.{flat_map}
use Rattle.std.specs.Option.{option_or}
use Rattle.std.proofs.lemmas.Bool.{lt-ltb, le-ltb}
use Rattle.std.proofs.lemmas.List.{map-append}
use Rattle.qtt_syntax.specs.Tree.{Con, Item, Module}
use Rattle.qtt_syntax.specs.Tree.Con.{con}
use Rattle.qtt_syntax.specs.Tree.Item.{family, signature, clause}
use Rattle.qtt_syntax.specs.Tree.Module.{module_text}
use Rattle.qtt_names.specs.declared.scope.OwnItem.{OwnItem}
use Rattle.qtt_names.specs.Scope.{same_name, entry_of, constructor_name, declared, with_item, with_items, own_items}
use Rattle.qtt_names.specs.Target.{if_earlier}
use Rattle.qtt_names_laws.specs.Sight.{Sort, First, Absent, Entry, names}
use Rattle.qtt_names_laws.specs.Sight.Absent.{none, other}
use Rattle.qtt_names_laws.specs.Places.{declares, constructor_of, items_of}
use Rattle.qtt_names_laws.proofs.Lists.{same, apart}

abbrev pub defines : Sort → Bool
defines Sort.family = false
defines Sort.constructor = false
defines Sort.definition = true

abbrev pub flag : List ℕ × Sort → List ℕ × Bool
flag e = (e.0, defines e.1)

-- the first item of the name, where they are numbered from j on
abbrev pub found : ℕ → List ℕ → List (List ℕ × Sort) → Option OwnItem
found j n [] = None
found j n (e ∷ es) =
    cond (same_name n e.0) (Some (record { number = j; is_definition = defines e.1 })) (found (suc j) n es)

or_none : {A : Type 0} (o : Option A) → option_or o None ≡ o
or_none None = refl
or_none (Some a) = refl

one_more : (n m : List ℕ) (item : OwnItem) (known : List (List ℕ × OwnItem)) →
    entry_of n (known ++ (m, item) ∷ []) ≡ option_or (entry_of n known) (cond (same_name n m) (Some item) None)
one_more n m item [] = refl
one_more n m item (e ∷ known) = by (same_name n e.0) (one_more n m item known)
  where
    by : (t : Bool) → entry_of n (known ++ (m, item) ∷ []) ≡
        option_or (entry_of n known) (cond (same_name n m) (Some item) None) →
        cond t (Some e.1) (entry_of n (known ++ (m, item) ∷ [])) ≡
        option_or (cond t (Some e.1) (entry_of n known)) (cond (same_name n m) (Some item) None)
    by true h = refl
    by false h = h

with_one : (n m : List ℕ) (item : OwnItem) (known : List (List ℕ × OwnItem)) →
    entry_of n (with_item known m item) ≡ option_or (entry_of n known) (cond (same_name n m) (Some item) None)
with_one n m item known = by (entry_of m known) refl (same_name n m) refl
  where
    by : (o : Option OwnItem) → entry_of m known ≡ o → (t : Bool) → same_name n m ≡ t →
        entry_of n (cond (is_some o) known (known ++ (m, item) ∷ [])) ≡
        option_or (entry_of n known) (cond t (Some item) None)
    by None q t e =
        one_more n m item known ∙
        ap (λ (t : Bool). option_or (entry_of n known) (cond t (Some item) None)) e
    by (Some x) q true e =
        let there : entry_of n known ≡ Some x =
        ap (λ (l : List ℕ). entry_of l known) (same n m e) ∙ q in
        there ∙ sym (ap (λ (o : Option OwnItem). option_or o (Some item)) there)
    by (Some x) q false e = sym (or_none (entry_of n known))

with_more : (n : List ℕ) (es : List (List ℕ × Sort)) (j : ℕ) (known : List (List ℕ × OwnItem)) →
    entry_of n (with_items known j (map flag es)) ≡ option_or (entry_of n known) (found j n es)
with_more n [] j known = sym (or_none (entry_of n known))
with_more n (e ∷ es) j known =
    with_more n es (suc j) (with_item known e.0 item) ∙
    ap (λ (o : Option OwnItem). option_or o (found (suc j) n es)) (with_one n e.0 item known) ∙
    by (entry_of n known) (same_name n e.0)
  where
    item : OwnItem
    item = record { number = j; is_definition = defines e.1 }

    by : (o : Option OwnItem) (t : Bool) →
        option_or (option_or o (cond t (Some item) None)) (found (suc j) n es) ≡
        option_or o (cond t (Some item) (found (suc j) n es))
    by None true = refl
    by None false = refl
    by (Some x) t = refl

-- ---- the first k of them

none_earlier : (n : List ℕ) (es : List (List ℕ × Sort)) (j k : ℕ) → k ≤ j → if_earlier k (found j n es) ≡ None
none_earlier n [] j k h = refl
none_earlier n (e ∷ es) j k h =
    let later : k ≤ suc j = omega arith in
    by (same_name n e.0) (none_earlier n es (suc j) k later)
  where
    by : (t : Bool) → if_earlier k (found (suc j) n es) ≡ None →
        if_earlier k (cond t (Some (record { number = j; is_definition = defines e.1 })) (found (suc j) n es)) ≡ None
    by true r =
        ap (λ (t : Bool). cond t (Some (record { number = j; is_definition = defines e.1 })) None) (le-ltb j k h)
    by false r = r

earlier_found : (n : List ℕ) (es : List (List ℕ × Sort)) (j k : ℕ) →
    if_earlier (j + k) (found j n es) ≡ found j n (take k es)
earlier_found n [] j zero = refl
earlier_found n [] j (suc k) = refl
earlier_found n (e ∷ es) j zero =
    let same_place : j + 0 ≤ j = omega arith in
    none_earlier n (e ∷ es) j (j + 0) same_place
earlier_found n (e ∷ es) j (suc k) = by (same_name n e.0) (earlier_found n es (suc j) k)
  where
    by : (t : Bool) → if_earlier (suc j + k) (found (suc j) n es) ≡ found (suc j) n (take k es) →
        if_earlier (j + suc k)
        (cond t (Some (record { number = j; is_definition = defines e.1 })) (found (suc j) n es)) ≡
        cond t (Some (record { number = j; is_definition = defines e.1 })) (found (suc j) n (take k es))
    by true r =
        ap (λ (t : Bool). cond t (Some (record { number = j; is_definition = defines e.1 })) None)
        (lt-ltb j (j + suc k) (omega arith))
    by false r =
        let next : j + suc k ≡ suc j + k = omega arith in
        ap (λ (l : ℕ). if_earlier l (found (suc j) n es)) next ∙ r

-- ---- what is found

-- the first item of the name is number i of those that are numbered from j on
pub record IsOwn (n : List ℕ) (es : List (List ℕ × Sort)) (j : ℕ) (item : OwnItem) : Type 0 where
  pub place : ℕ
  pub first : First n (names es) place
  pub number : item.number ≡ j + place
  pub sort : Sort
  pub entry : Entry n sort es
  pub kind : item.is_definition ≡ defines sort

abbrev pub Owned : List ℕ → List (List ℕ × Sort) → ℕ → Option OwnItem → Type 0
Owned n es j None = Absent n (names es)
Owned n es j (Some item) = IsOwn n es j item

owned : (n : List ℕ) (es : List (List ℕ × Sort)) (j : ℕ) → Owned n es j (found j n es)
owned n [] j = none
owned n (e ∷ es) j = by (same_name n e.0) refl (found (suc j) n es) (owned n es (suc j))
  where
    by : (t : Bool) → same_name n e.0 ≡ t → (o : Option OwnItem) → Owned n es (suc j) o →
        Owned n (e ∷ es) j (cond t (Some (record { number = j; is_definition = defines e.1 })) o)
    by true q o h = record {
      place = 0;
      first = subst (λ (m : List ℕ). First n (m ∷ names es) 0) (same n e.0 q) First.here;
      number = omega arith;
      sort = e.1;
      entry = subst (λ (m : List ℕ). Entry n e.1 ((m, e.1) ∷ es)) (same n e.0 q) Entry.here;
      kind = refl;
    }
    by false q None h = other (apart n e.0 q) h
    by false q (Some item) h = record {
      place = suc h.place;
      first = First.behind (apart n e.0 q) h.first;
      number =
          let e : suc j + h.place ≡ j + suc h.place = omega arith in
          h.number ∙ e;
      sort = h.sort;
      entry = Entry.behind (apart n e.0 q) h.entry;
      kind = h.kind;
    }

-- ---- of a text

constructor_names : (cs : List Con) → map constructor_name cs ≡ map flag (map constructor_of cs)
constructor_names [] = refl
constructor_names (con n t s ∷ cs) = ap (λ (l : List (List ℕ × Bool)). (n, false) ∷ l) (constructor_names cs)

declared_names : (i : Item) → declared i ≡ map flag (declares i)
declared_names (family n ns ps t cs s) = ap (λ (l : List (List ℕ × Bool)). (n, false) ∷ l) (constructor_names cs)
declared_names (signature p m n ns t s) = refl
declared_names (clause n ps side s) = refl

all_declared : (items : List Item) → flat_map declared items ≡ map flag (flat_map declares items)
all_declared [] = refl
all_declared (i ∷ items) =
    ap (λ (l : List (List ℕ × Bool)). l ++ flat_map declared items) (declared_names i) ∙
    ap (λ (l : List (List ℕ × Bool)). map flag (declares i) ++ l) (all_declared items) ∙
    sym (map-append flag (declares i) (flat_map declares items))

text_items : (m : Module) → own_items m ≡ with_items [] 0 (map flag (items_of m))
text_items (module_text h n ns is items) = ap (with_items [] 0) (all_declared items)

-- what is looked up among the first k own items of a text
own_found : (m : Module) (k : ℕ) (n : List ℕ) →
    if_earlier k (entry_of n (own_items m)) ≡ found 0 n (take k (items_of m))
own_found m k n =
    let start : k ≡ 0 + k = omega arith in
    ap (λ (l : List (List ℕ × OwnItem)). if_earlier k (entry_of n l)) (text_items m) ∙
    ap (if_earlier k) (with_more n (items_of m) 0 []) ∙
    ap (λ (l : ℕ). if_earlier l (found 0 n (items_of m))) start ∙ earlier_found n (items_of m) 0 k

pub own_is : (m : Module) (k : ℕ) (n : List ℕ) →
    Owned n (take k (items_of m)) 0 (if_earlier k (entry_of n (own_items m)))
own_is m k n = subst (Owned n (take k (items_of m)) 0) (sym (own_found m k n)) (owned n (take k (items_of m)) 0)
