-- What a group gives, part after part.
use Rattle.std.proofs.Common.{◌≡◌, ℕ, true, false, List, [], ◌∷◌, length, map, refl, sym, subst, arith}
use Rattle.std.proofs.lemmas.Bool.{eqb-true}
use Rattle.std.specs.Bool.{◌==◌}
use Rattle.qtt_term.specs.Signature.{Env}
use Rattle.qtt_rules.specs.declared.errors.ElabError.{ElabError}
use Rattle.qtt_rules.specs.Asks.{Asks}
use Rattle.qtt_bidi.specs.Answers.{Reaches, Refuses}
use Rattle.qtt_bidi.proofs.Within.{on, on_done, here, later}
use Rattle.qtt_split.specs.Group.{Defined, Numbered, all_sides, body_with, body_holds, tree_of}
use Rattle.qtt_split.specs.Plan.{Planned}
use Rattle.qtt_split.specs.Tree.{leaves}
use Rattle.qtt_holes.specs.declared.hole.Hole as code_hole
use Rattle.qtt_holes.specs.Hole.{Hole}
use Rattle.qtt_holes.specs.View.{hole}
use Rattle.qtt_module.specs.Sides.{Side, side_or_hole, holes_from, cores, Given, end_group, group_of}

-- whether there are holes
pub some-holes : (hs : List code_hole.Hole) → (length hs == 0) ≡ false → map hole hs ≡ [] → ⊥
some-holes [] e h = absurd (cc e)
some-holes (x ∷ xs) e h = absurd (cc h)

pub no-holes : (hs : List code_hole.Hole) → (length hs == 0) ≡ true → map hole hs ≡ []
no-holes [] e = refl
no-holes (x ∷ xs) e =
    let z : length (x ∷ xs) ≡ 0 = eqb-true (length (x ∷ xs)) 0 e in
    let no : ⊥ = omega (arith, z) in absurd no

module _ (E : Env) (n : ℕ) (D : Defined) where
  pub tree-refused : (e : ElabError) → Refuses E n (tree_of D) e → Refuses E n (group_of D) e
  unfolding group_of
  tree-refused e h = here E n (tree_of D) _ e h

  module _ (P : Planned) (p : Reaches E n (tree_of D) P) where
    abbrev sides : Asks (Numbered Side)
    sides = all_sides (side_or_hole D.group.globals D.group.part) 0 D.group.clauses (leaves P.tree)

    pub sides-refused : (e : ElabError) → Refuses E n sides e → Refuses E n (group_of D) e
    unfolding group_of
    sides-refused e h = later E n (tree_of D) _ e p (here E n sides _ e h)

    module _ (xs : Numbered Side) (s : Reaches E n sides xs) where
      pub holes-given : (hs : List Hole) → (hs ≡ [] → ⊥) → holes_from [] xs ≡ hs →
          Reaches E n (group_of D) (Given.holes hs)
      unfolding group_of end_group
      holes-given [] some d = absurd (some refl)
      holes-given (h ∷ hs) some d =
          on _ p (on _ s (subst (λ os. Reaches E n (end_group D P xs os) (Given.holes (h ∷ hs))) (sym d) on_done))

      pub body-refused : (e : ElabError) → holes_from [] xs ≡ [] →
          Refuses E n (body_holds D (body_with P (cores xs))) e → Refuses E n (group_of D) e
      unfolding group_of end_group
      body-refused e d h =
          later E n (tree_of D) _ e p (later E n sides _ e s
          (subst (λ os. Refuses E n (end_group D P xs os) e) (sym d)
          (here E n (body_holds D (body_with P (cores xs))) _ e h)))

      pub body-given : holes_from [] xs ≡ [] → Reaches E n (body_holds D (body_with P (cores xs))) tt →
          Reaches E n (group_of D) (Given.body (body_with P (cores xs)))
      unfolding group_of end_group
      body-given d h =
          on _ p (on _ s (subst (λ os. Reaches E n (end_group D P xs os) (Given.body (body_with P (cores xs)))) (sym d)
          (on _ h on_done)))
