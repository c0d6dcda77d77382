-- A clause at a leaf, part after part.
use Rattle.std.proofs.Common.{◌≡◌, ℕ, Bool, true, false, List, [], ◌∷◌, refl, reverse}
use Rattle.qtt_base.specs.declared.place.Span.{Span}
use Rattle.qtt_syntax.specs.Tree.{Tree}
use Rattle.qtt_term.specs.Term.{Term}
use Rattle.qtt_term.specs.Signature.{Env}
use Rattle.qtt_term.specs.Judgement.{Part}
use Rattle.qtt_term.specs.Ask.{Ask, ◌>>=◌}
use Rattle.qtt_term.specs.Entries.{Entries}
use Rattle.qtt_rules.specs.declared.errors.ElabError.{ElabError}
use Rattle.qtt_rules.specs.Asks.{Asks}
use Rattle.qtt_rules.specs.Judged.{Judged, Mode}
use Rattle.qtt_bidi.specs.Answers.{Reaches, Refuses}
use Rattle.qtt_bidi.specs.Elaboration.{judge}
use Rattle.qtt_bidi.proofs.Within.{on, on_done, here, later}
use Rattle.qtt_split.specs.Group.{dots_of, scope_at, dots_agree, side_at}
use Rattle.qtt_split.specs.Node.{Clause}
use Rattle.qtt_split.specs.Tree.{Leaf}
use Rattle.qtt_holes.specs.Hole.{Hole}
use Rattle.qtt_holes.specs.Walk.{has_hole, walk}
use Rattle.qtt_module.specs.Sides.{names_of, Side, side_or_hole}
use Rattle.qtt_module.specs.GroupCalls.{same_asks, core_asks, hole_asks}

-- ---- dot patterns
pub one-dot : (G : Entries) (l : Leaf) (d : Tree × Span) (ds : List (Tree × Span)) (c : Term × Term)
    (cs : List (Term × Term)) →
    dots_agree (judge G) l (d ∷ ds) (c ∷ cs)
    ≡ (judge G Part.erased (scope_at l) (Mode.check c.1) d.0 >>= (λ (e : Judged). same_asks l e.core c.0 d.1 >>=
    (λ u. dots_agree (judge G) l ds cs)))
unfolding ◌>>=◌
one-dot G l d ds c cs = refl

pub no-dot : (G : Entries) (l : Leaf) (cs : List (Term × Term)) → dots_agree (judge G) l [] cs ≡ Ask.done tt
no-dot G l [] = refl
no-dot G l (c ∷ cs) = refl

pub no-column : (G : Entries) (l : Leaf) (ds : List (Tree × Span)) → dots_agree (judge G) l ds [] ≡ Ask.done tt
no-column G l [] = refl
no-column G l (d ∷ ds) = refl

-- ---- a right side, or a hole
module _ (E : Env) (n : ℕ) (G : Entries) (p : Part) (c : Clause) (l : Leaf) where
  abbrev dots : Asks (Unit {0})
  dots = dots_agree (judge G) l (dots_of c.patterns) l.dots

  abbrev either : Bool → Asks Side
  either b = elim b [
    | false ↦ side_at (judge G) p c l >>= λ t. Ask.done (Side.core t)
    | true ↦ dots >>= λ d.
        walk G p (scope_at l) (reverse (names_of c.patterns)) l.reported c.side l.goal >>= λ h.
        Ask.done (Side.hole h)
  ]

  pub dots-refused : (e : ElabError) → Refuses E n dots e → Refuses E n (side_or_hole G p c l) e
  unfolding side_or_hole side_at
  dots-refused e h = by (has_hole c.side)
    where
      by : (b : Bool) → Refuses E n (either b) e
      by false = here E n (side_at (judge G) p c l) _ e (here E n dots _ e h)
      by true = here E n dots _ e h

  module _ (d : Reaches E n dots tt) where
    pub hole-refused : (e : ElabError) → has_hole c.side ≡ true → Refuses E n (hole_asks G p c l) e →
        Refuses E n (side_or_hole G p c l) e
    unfolding side_or_hole side_at
    hole-refused e i h = by (has_hole c.side) i
      where
        by : (b : Bool) → b ≡ true → Refuses E n (either b) e
        by true k = later E n dots _ e d (here E n (hole_asks G p c l) _ e h)
        by false k = absurd (cc k)

    pub hole-reached : (x : Hole) → has_hole c.side ≡ true → Reaches E n (hole_asks G p c l) x →
        Reaches E n (side_or_hole G p c l) (Side.hole x)
    unfolding side_or_hole side_at
    hole-reached x i h = by (has_hole c.side) i
      where
        by : (b : Bool) → b ≡ true → Reaches E n (either b) (Side.hole x)
        by true k = on _ d (on _ h on_done)
        by false k = absurd (cc k)

    pub core-refused : (e : ElabError) → has_hole c.side ≡ false → Refuses E n (core_asks G p c l) e →
        Refuses E n (side_or_hole G p c l) e
    unfolding side_or_hole side_at
    core-refused e i h = by (has_hole c.side) i
      where
        by : (b : Bool) → b ≡ false → Refuses E n (either b) e
        by false k = here E n (side_at (judge G) p c l) _ e (later E n dots (λ u. core_asks G p c l) e d h)
        by true k = absurd (cc k)

    pub core-reached : (t : Term) → has_hole c.side ≡ false → Reaches E n (core_asks G p c l) t →
        Reaches E n (side_or_hole G p c l) (Side.core t)
    unfolding side_or_hole side_at
    core-reached t i h = by (has_hole c.side) i
      where
        by : (b : Bool) → b ≡ false → Reaches E n (either b) (Side.core t)
        by false k = on {m = side_at (judge G) p c l} _ (on (λ u. core_asks G p c l) d h) on_done
        by true k = absurd (cc k)
