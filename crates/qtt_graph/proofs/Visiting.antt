-- Ranks that are known while imports are followed.
use Rattle.std.proofs.Common.{◌≡◌, ℕ, ◌+◌, ◌≤◌, ◌<◌, true, cond, List, length, slice_index_or, slice_set, Option, Some, None, refl, sym, ap, ◌∙◌, subst, ◌⊎◌, inl, inr, arith}
use Rattle.std.specs.Prelude.{is_none, is_some}
use Rattle.std.proofs.lemmas.Bool.{cases_eq}
use Rattle.std.proofs.lemmas.List.{length-set, get_or-set_same, get_or-set_other}
use Rattle.std.proofs.lemmas.List.Sums.{sum_by-set}
use Rattle.qtt_graph.specs.Graph.{Name, Graph}
use Rattle.qtt_graph.specs.Ring.{Imports, Leads, back}
use Rattle.qtt_graph.specs.Ring.Leads.{by_import, onward}
use Rattle.qtt_graph.specs.Ranks.{rank}
use Rattle.qtt_graph.specs.Modules.{name_at}
use Rattle.qtt_graph.specs.Ranking.{Known, LeadsOn, HasNone, unvisited}
use Rattle.qtt_graph.proofs.Among.{none≢some, some-injective}
use Rattle.qtt_graph.proofs.Rings.{back-leads}
use Rattle.qtt_graph.proofs.Following.{not-to-itself}

abbrev pub Found : Type 0
Found = Option (Option ℕ)

-- ---- a module that leads to itself has no rank
ring-unranked : (g : Graph) (a : Name) → Leads g a a → rank g a ≡ None
ring-unranked g a l = by_rank (rank g a) refl
  where
    by_rank : (o : Option ℕ) → rank g a ≡ o → rank g a ≡ None
    by_rank None e = e
    by_rank (Some r) e = absurd (not-to-itself g a r (length g, e) l)

ranked-no_way : (g : Graph) (a : Name) (r : ℕ) → rank g a ≡ Some r → back g a ≡ None
ranked-no_way g a r e = by_back (back g a) refl
  where
    by_back : (o : Option (List Name)) → back g a ≡ o → back g a ≡ None
    by_back None d = d
    by_back (Some w) d = absurd (not-to-itself g a r (length g, e) (back-leads g 0 (length g) a w d))

pub ranked-passed : (g : Graph) (a : Name) (o : Option ℕ) → rank g a ≡ o → is_some o ≡ true → back g a ≡ None
ranked-passed g a None e s = absurd (cc s)
ranked-passed g a (Some r) e s = ranked-no_way g a r e

leads-more : (g : Graph) {a b c : Name} → Leads g a b → Imports g b c → Leads g a c
leads-more g (by_import i) j = onward i (by_import j)
leads-more g (onward i l) j = onward i (leads-more g l j)

-- ---- what was found of a module that was come to
pub found-before : (g : Graph) (p : ℕ) (known : List Found) (f : Option ℕ) → Known g (LeadsOn g p) known →
    p < length g → slice_index_or known p None ≡ Some f → f ≡ rank g (name_at g p)
found-before g p known (Some r) h l e = sym (h.ranks p r l e)
found-before g p known None h l e = by_case (h.without p l e)
  where
    by_case : (rank g (name_at g p) ≡ None) ⊎ LeadsOn g p p → None ≡ rank g (name_at g p)
    by_case (inl none) = sym none
    by_case (inr leads) = sym (ring-unranked g (name_at g p) leads)

pub found-kept : (g : Graph) (P : ℕ → Type 0) (known : List Found) → Known g P known → Known g (HasNone known) known
found-kept g P known h = record { all = h.all; ranks = h.ranks; without = λ i l e. inr e }

-- ---- while the imports of the module at place p are followed
pub record Visiting (g : Graph) (p : ℕ) (before now : List Found) : Type 0 where
  pub known : Known g (λ i. (i ≡ p) ⊎ HasNone before i) now
  pub fewer : unvisited now < unvisited before

-- what is written at a place and what was there
set-here : (known : List Found) (p i : ℕ) (new value : Found) → p < length known → i ≡ p →
    slice_index_or (slice_set known p new) i None ≡ value → new ≡ value
set-here known p i new value l same e =
    sym (get_or-set_same known p new None l) ∙
    subst (λ j. slice_index_or (slice_set known p new) j None ≡ value) same e

set-there : (known : List Found) (p i : ℕ) (new value : Found) → (i ≡ p → ⊥) →
    slice_index_or (slice_set known p new) i None ≡ value → slice_index_or known i None ≡ value
set-there known p i new value other e = sym (get_or-set_other known p i new None other) ∙ e

abbrev one_if_none : Found → ℕ
one_if_none o = cond (is_none o) 1 0

count-set : (known : List Found) (p : ℕ) (f : Option ℕ) → p < length known →
    unvisited (slice_set known p (Some f)) + one_if_none (slice_index_or known p None) ≡ unvisited known + 0
count-set known p f l = sum_by-set one_if_none known p (Some f) None l

visited-fewer : (known : List Found) (p : ℕ) (f : Option ℕ) → p < length known →
    slice_index_or known p None ≡ None → unvisited (slice_set known p (Some f)) < unvisited known
visited-fewer known p f l e =
    let count = count-set known p f l in
    let one = ap one_if_none e in
    omega (arith, count, one)

-- none is known of the module when it is come to
pub visiting-begun : (g : Graph) (p : ℕ) (before : List Found) → p < length g →
    slice_index_or before p None ≡ None → Known g (LeadsOn g p) before →
    Visiting g p before (slice_set before p (Some None))
visiting-begun g p before l e h = record {
  known = record {
    all = length-set before p (Some None) ∙ h.all;
    ranks = λ i r m d. ranked i r m d (cases_eq i p);
    without = λ i m d. none i m d (cases_eq i p);
  };
  fewer = visited-fewer before p None inside e;
}
  where
    inside : p < length before
    inside = omega (arith, l, h.all)

    ranked : (i r : ℕ) → i < length g → slice_index_or (slice_set before p (Some None)) i None ≡ Some (Some r) →
        (i ≡ p) ⊎ (i ≡ p → ⊥) → rank g (name_at g i) ≡ Some r
    ranked i r m d (inl same) =
        absurd (none≢some (some-injective (set-here before p i (Some None) (Some (Some r)) inside same d)))
    ranked i r m d (inr other) = h.ranks i r m (set-there before p i (Some None) (Some (Some r)) other d)

    none : (i : ℕ) → i < length g → slice_index_or (slice_set before p (Some None)) i None ≡ Some None →
        (i ≡ p) ⊎ (i ≡ p → ⊥) → (rank g (name_at g i) ≡ None) ⊎ ((i ≡ p) ⊎ HasNone before i)
    none i m d (inl same) = inr (inl same)
    none i m d (inr other) = inr (inr (set-there before p i (Some None) (Some None) other d))

-- what is known when an import is followed
pub visiting-import : (g : Graph) (p q : ℕ) (before known : List Found) → Imports g (name_at g p) (name_at g q) →
    Known g (LeadsOn g p) before → Visiting g p before known → Known g (LeadsOn g q) known
visiting-import g p q before known imports start h = record {
  all = h.known.all;
  ranks = h.known.ranks;
  without = λ i l e. by_case i l (h.known.without i l e);
}
  where
    further : (i : ℕ) → (rank g (name_at g i) ≡ None) ⊎ LeadsOn g p i → (rank g (name_at g i) ≡ None) ⊎ LeadsOn g q i
    further i (inl none) = inl none
    further i (inr leads) = inr (leads-more g leads imports)

    by_case : (i : ℕ) → i < length g → (rank g (name_at g i) ≡ None) ⊎ ((i ≡ p) ⊎ HasNone before i) →
        (rank g (name_at g i) ≡ None) ⊎ LeadsOn g q i
    by_case i l (inl none) = inl none
    by_case i l (inr (inl same)) =
        inr (by_import (subst (λ j. Imports g (name_at g j) (name_at g q)) (sym same) imports))
    by_case i l (inr (inr was)) = further i (start.without i l was)

-- and when it was followed
pub visiting-on : (g : Graph) (p : ℕ) (before known after : List Found) → Visiting g p before known →
    Known g (HasNone known) after → unvisited after ≤ unvisited known → Visiting g p before after
visiting-on g p before known after h k few = record {
  known = record {
    all = k.all;
    ranks = k.ranks;
    without = λ i l e. by_case i l (k.without i l e);
  };
  fewer = let less = h.fewer in omega (arith, less, few);
}
  where
    by_case : (i : ℕ) → i < length g → (rank g (name_at g i) ≡ None) ⊎ HasNone known i →
        (rank g (name_at g i) ≡ None) ⊎ ((i ≡ p) ⊎ HasNone before i)
    by_case i l (inl none) = inl none
    by_case i l (inr was) = h.known.without i l was

-- the module has no rank
pub visiting-none : (g : Graph) (p : ℕ) (before known : List Found) → rank g (name_at g p) ≡ None →
    Visiting g p before known → Known g (HasNone before) known
visiting-none g p before known e h = record {
  all = h.known.all;
  ranks = h.known.ranks;
  without = λ i l d. by_case i (h.known.without i l d);
}
  where
    by_case : (i : ℕ) → (rank g (name_at g i) ≡ None) ⊎ ((i ≡ p) ⊎ HasNone before i) →
        (rank g (name_at g i) ≡ None) ⊎ HasNone before i
    by_case i (inl none) = inl none
    by_case i (inr (inl same)) = inl (subst (λ j. rank g (name_at g j) ≡ None) (sym same) e)
    by_case i (inr (inr was)) = inr was

-- the module has a rank
pub visiting-ranked : (g : Graph) (p r : ℕ) (before known : List Found) → p < length g →
    rank g (name_at g p) ≡ Some r → Visiting g p before known →
    Known g (HasNone before) (slice_set known p (Some (Some r)))
visiting-ranked g p r before known l e h = record {
  all = length-set known p (Some (Some r)) ∙ h.known.all;
  ranks = λ i s m d. ranked i s m d (cases_eq i p);
  without = λ i m d. none i m d (cases_eq i p);
}
  where
    inside : p < length known
    inside = omega (arith, l, h.known.all)

    ranked : (i s : ℕ) → i < length g → slice_index_or (slice_set known p (Some (Some r))) i None ≡ Some (Some s) →
        (i ≡ p) ⊎ (i ≡ p → ⊥) → rank g (name_at g i) ≡ Some s
    ranked i s m d (inl same) =
        subst (λ j. rank g (name_at g j) ≡ Some s) (sym same)
        (e ∙ some-injective (set-here known p i (Some (Some r)) (Some (Some s)) inside same d))
    ranked i s m d (inr other) = h.known.ranks i s m (set-there known p i (Some (Some r)) (Some (Some s)) other d)

    by_case : (i : ℕ) → (i ≡ p → ⊥) → (rank g (name_at g i) ≡ None) ⊎ ((i ≡ p) ⊎ HasNone before i) →
        (rank g (name_at g i) ≡ None) ⊎ HasNone before i
    by_case i other (inl nothing) = inl nothing
    by_case i other (inr (inl same)) = absurd (other same)
    by_case i other (inr (inr was)) = inr was

    none : (i : ℕ) → i < length g → slice_index_or (slice_set known p (Some (Some r))) i None ≡ Some None →
        (i ≡ p) ⊎ (i ≡ p → ⊥) → (rank g (name_at g i) ≡ None) ⊎ HasNone before i
    none i m d (inl same) =
        absurd (none≢some (sym (some-injective (set-here known p i (Some (Some r)) (Some None) inside same d))))
    none i m d (inr other) =
        by_case i other (h.known.without i m (set-there known p i (Some (Some r)) (Some None) other d))

-- ---- between the modules no imports are being followed
abbrev pub Settled : Graph → List Found → Type 0
Settled g known = Known g (λ i. ⊥) known
