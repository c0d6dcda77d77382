-- The names of constructor patterns are items.
use Rattle.std.proofs.Common.{◌≡◌, ℕ, List, [], ◌∷◌, map, refl, ap, ◌∙◌, subst}
use Rattle.qtt_base.specs.declared.place.ModuleId.{ModuleId}
use Rattle.qtt_syntax.specs.declared.expr.Named.{Named}
use Rattle.qtt_syntax.specs.declared.expr.Target.{Target}
use Rattle.qtt_syntax.specs.Tree.{Shape, Shapes, Con, Item, Module}
use Rattle.qtt_names.specs.Scope.{Imported}
use Rattle.qtt_names_laws.specs.Sight.{Place, Sort, First, Sees}
use Rattle.qtt_names_laws.specs.Places.{clause_binds, constructor_of, under_all, under, bare, after_all}
use Rattle.qtt_names_laws.specs.Resolution.{NameResolves, ShapeResolves, ShapesResolve, PatternsResolve, ConResolves, ConsResolve, Before, ItemResolves, behind, ItemsResolve, start, TextResolves}
use Rattle.qtt_names_laws.specs.Heads.{IsItem, HeadsAre, AllHeadsAre, PatternsAre, ItemIs, ItemsAre, TextIs, after_item, PatternNamesAreItems}
use Rattle.qtt_names_laws.proofs.Items.{resolved_by_the_text}

none_first : (n : List ℕ) (i : ℕ) → First n [] i → ⊥
none_first n i h = elim h [ ]

seen_item : (p : Place) (path : List ℕ) (t : Target) → Sees (bare p) path t → IsItem p t
seen_item p path _ (Sees.binder {i = i} h) = absurd (none_first path i h)
seen_item p path _ (Sees.own a s h) = IsItem.own h
seen_item p path _ (Sees.imported a s o h) = IsItem.exported h.exported
seen_item p path _ (Sees.own_qualified a s h) = IsItem.own h
seen_item p path _ (Sees.imported_qualified a s d h) = IsItem.exported h.exported

-- binders change no items
not_under : (ns : List (List ℕ)) (p : Place) (t : Target) → IsItem (under_all p ns) t → IsItem p t
not_under [] p t h = h
not_under (n ∷ ns) p t h = one (not_under ns (under p n) t h)
  where
    one : {t : Target} → IsItem (under p n) t → IsItem p t
    one (IsItem.own h) = IsItem.own h
    one (IsItem.exported h) = IsItem.exported h

named_item : (ns : List (List ℕ)) (p : Place) (n n' : Named) → NameResolves (bare (under_all p ns)) n n' →
    IsItem p n'.target
named_item ns p n _ (NameResolves.sees {t = t} h) = not_under ns p t (seen_item (under_all p ns) n.path t h)

module _ (p : Place) (ns : List (List ℕ)) where
  mutual
    shape_heads : (q : Place) (before : List (List ℕ)) (a b : Shape) → ShapeResolves q before a b →
        q ≡ under_all p ns → HeadsAre p b
    shape_heads q before _ _ (ShapeResolves.a_variable h) e = tt
    shape_heads q before _ _ ShapeResolves.a_wildcard e = tt
    shape_heads q before _ _ (ShapeResolves.a_constructor {h = h} {h' = h'} {ps = ps} {ps' = ps'} x y) e = (
      named_item ns p h h' (subst (λ (r : Place). NameResolves (bare r) h h') e x),
      shapes_heads q before ps ps' y e,
    )
    shape_heads q before _ _ (ShapeResolves.a_dot h) e = tt

    shapes_heads : (q : Place) (before : List (List ℕ)) (a b : Shapes) → ShapesResolve q before a b →
        q ≡ under_all p ns → AllHeadsAre p b
    shapes_heads q before _ _ ShapesResolve.no_shapes e = tt
    shapes_heads q before _ _ (ShapesResolve.shape_and_more {a = a} {a' = a'} {more = more} {more' = more'} h k) e =
        (shape_heads q before a a' h e, shapes_heads q _ more more' k e)

  patterns_heads : (q : Place) (before : List (List ℕ)) (ps qs : List Shape) → PatternsResolve q before ps qs →
      q ≡ under_all p ns → PatternsAre p qs
  patterns_heads q before _ _ PatternsResolve.no_more e = tt
  patterns_heads q before _ _ (PatternsResolve.and_more {a = a} {a' = a'} {more = more} {more' = more'} h k) e =
      (shape_heads q before a a' h e, patterns_heads q _ more more' k e)

-- ---- items keep their names

con_kept : (p : Place) (taken : List (List ℕ)) (c d : Con) → ConResolves p taken c d →
    constructor_of c ≡ constructor_of d
con_kept p taken _ _ (ConResolves.a_con h k) = refl

cons_kept : (p : Place) (taken : List (List ℕ)) (cs ds : List Con) → ConsResolve p taken cs ds →
    map constructor_of cs ≡ map constructor_of ds
cons_kept p taken _ _ ConsResolve.no_more = refl
cons_kept p taken _ _ (ConsResolve.and_more {c = c} {c' = c'} {more = more} {more' = more'} h k) =
    ap (λ (e : List ℕ × Sort). e ∷ map constructor_of more) (con_kept p taken c c' h) ∙
    ap (λ (l : List (List ℕ × Sort)). constructor_of c' ∷ l) (cons_kept p _ more more' k)

place_kept : (b : Before) (i i' : Item) → ItemResolves b i i' → (behind b i).place ≡ after_item b.place i'
place_kept b _ _ (ItemResolves.a_family {n = n} {cs = cs} {cs' = cs'} h x y z) =
    ap (λ (l : List (List ℕ × Sort)). after_all b.place ((n, Sort.family) ∷ l)) (cons_kept _ _ cs cs' z)
place_kept b _ _ (ItemResolves.a_signature h x) = refl
place_kept b _ _ (ItemResolves.a_clause d h x y z) = refl

item_heads : (b : Before) (i i' : Item) → ItemResolves b i i' → ItemIs b.place i'
item_heads b _ _ (ItemResolves.a_family h x y z) = tt
item_heads b _ _ (ItemResolves.a_signature h x) = tt
item_heads b _ _ (ItemResolves.a_clause {ps = ps} {ps' = ps'} d h x y z) =
    patterns_heads b.place (clause_binds ps) (under_all b.place (clause_binds ps)) [] ps ps' x refl

items_heads : (b : Before) (items items' : List Item) → ItemsResolve b items items' → ItemsAre b.place items'
items_heads b _ _ ItemsResolve.no_more = tt
items_heads b _ _ (ItemsResolve.and_more {i = i} {i' = i'} {more = more} {more' = more'} h k) = (
  item_heads b i i' h,
  subst (λ (p : Place). ItemsAre p more') (place_kept b i i' h) (items_heads (behind b i) more more' k),
)

text_heads : (home : ModuleId) (imports : List Imported) (m n : Module) → TextResolves home imports m n →
    TextIs home imports n
text_heads home imports _ _ (TextResolves.a_text {n = n} {items = items} {items' = items'} k) =
    items_heads (start home n imports) items items' k

pub pattern_names_are_items : PatternNamesAreItems
pattern_names_are_items home m n imports e =
    text_heads home imports m n ((resolved_by_the_text.text home m n imports).0 e)
