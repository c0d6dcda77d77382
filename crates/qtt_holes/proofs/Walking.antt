-- What the rules of the way to a hole derive is what it ends with.
use Rattle.std.proofs.Common.{ℕ, List}
use Rattle.qtt_base.specs.declared.place.Span.{Span}
use Rattle.qtt_usage.specs.declared.mult.Mult.{Mult}
use Rattle.qtt_syntax.specs.Tree.{Tree, Annotation, Binder, Binders, Statements}
use Rattle.qtt_term.specs.Term.{Term}
use Rattle.qtt_term.specs.Judgement.{Part}
use Rattle.qtt_term.specs.Ask.{Ends}
use Rattle.qtt_term.specs.Entries.{Entries, env}
use Rattle.qtt_term.specs.Scope.{Scope}
use Rattle.qtt_term.proofs.Same.{mult-same}
use Rattle.qtt_rules.specs.Refusal.{Place}
use Rattle.qtt_rules.specs.Judged.{Judged, Mode}
use Rattle.qtt_rules.specs.Report.{Report}
use Rattle.qtt_core_check.proofs.Answered.{ends-then as joined}
use Rattle.qtt_bidi.specs.Elaboration.{Classified, is_type, judge, valued, written_domain}
use Rattle.qtt_bidi.specs.Rules.{IsType, Acts, Agrees, Valued}
use Rattle.qtt_bidi.proofs.Endings.{Gives, held, agreed, found_head}
use Rattle.qtt_bidi.proofs.Heads.{head_function, head_action}
use Rattle.qtt_bidi.proofs.Reached.{ends, typed_so}
use Rattle.qtt_holes.specs.Hole.{Hole, fits_before}
use Rattle.qtt_holes.specs.Walk.{Walked, lambda_way, way, statements_way, walk}
use Rattle.qtt_holes.specs.Rules.{Walks, WalksLambda, WalksStatements, HasHole}
use Rattle.qtt_holes.proofs.Passing.{so_fit, so_uses}

-- ---- premises of elaboration
so_type : {G : Entries} {S : Scope} {e : Tree} {D : Classified} → IsType G S e D → (l : Place) →
    Gives (env G) (is_type S (judge G Part.erased S Mode.synth e) l) D
so_type {G} {S} (IsType.classified d h) l = typed_so G S _ l (ends d) h

so_value : {G : Entries} {p : Part} {S : Scope} {A : Annotation} {e : Tree} {j : Judged} → Valued G p S A e j →
    Gives (env G) (valued G S A (λ n. judge G p S n e)) j
so_value (Valued.without_annotation d) = ends d
so_value (Valued.with_annotation t d) = joined _ _ (so_type t _) (ends d)

so_domain : {G : Entries} {S : Scope} {q : Mult} {A : Term} {b : Binder} → Agrees G S q A b → (s : Span) (B : Term) →
    Gives (env G) (written_domain G S s (record { mult = q; domain = A; codomain = B }) b) tt
so_domain Agrees.without_type s B = Ends.is_done
so_domain {S = S} {q = q} {A = A} (Agrees.with_type t c) s B =
    joined _ _ (held _ _ (mult-same q)) (joined _ _ (so_type t _) (agreed _ _ A _ c))

-- ---- all ways
mutual
  pub so_way : {G : Entries} {p : Part} {S : Scope} {ns : List (List ℕ)} {A : Term} {e : Tree} {w : Walked} →
      Walks G p S ns A e w → Gives (env G) (way G p S ns e A) w
  so_way Walks.at_hole = Ends.is_done
  so_way (Walks.in_lambda {s = s} d) = so_lambda d s
  so_way {p = p} (Walks.in_let v b f) =
      joined _ _ (so_value v) (joined _ _ (so_way b) (joined _ _ (so_fit p _ _ _ _ f) Ends.is_done))
  so_way (Walks.in_block {s = s} d) = so_statements d s

  so_lambda : {G : Entries} {p : Part} {S : Scope} {ns : List (List ℕ)} {A : Term} {bs : Binders} {e : Tree}
      {w : Walked} → WalksLambda G p S ns A bs e w → (s : Span) →
      Gives (env G) (lambda_way G p S ns s A bs (λ T ms B. way G p T ms e B)) w
  so_lambda (WalksLambda.body d) s = so_way d
  so_lambda {p = p} {A = F} (WalksLambda.binder h a d f) s =
      joined _ _ (found_head _ _ _ F _ _ (head_function h))
      (joined _ _ (so_domain a s _) (joined _ _ (so_lambda d s) (joined _ _ (so_fit p _ _ _ _ f) Ends.is_done)))

  so_statements : {G : Entries} {p : Part} {S : Scope} {ns : List (List ℕ)} {A : Term} {ss : Statements} {w : Walked} →
      WalksStatements G p S ns A ss w → (s : Span) → Gives (env G) (statements_way G p S ns s ss A) w
  so_statements (WalksStatements.last d) s = so_way d
  so_statements {p = p} {A = F} (WalksStatements.act Acts.binds h d k r f) s =
      joined _ _ (found_head _ _ _ F _ _ (head_action h))
      (joined _ _ (ends d) (joined _ _ (found_head _ _ _ _ _ _ (head_action k))
      (joined _ _ (so_statements r _) (joined _ _ (so_fit p _ _ _ _ f) Ends.is_done))))
  so_statements {p = p} {A = F} (WalksStatements.act Acts.runs h d k r f) s =
      joined _ _ (found_head _ _ _ F _ _ (head_action h))
      (joined _ _ (ends d) (joined _ _ (found_head _ _ _ _ _ _ (head_action k))
      (joined _ _ (so_statements r _) (joined _ _ (so_fit p _ _ _ _ f) Ends.is_done))))
  so_statements {p = p} (WalksStatements.let_then v b f) s =
      joined _ _ (so_value v) (joined _ _ (so_statements b _) (joined _ _ (so_fit p _ _ _ _ f) Ends.is_done))

pub so_walk : (G : Entries) (p : Part) (S : Scope) (ns : List (List ℕ)) (rs : List Report) (e : Tree) (A : Term)
    (h : Hole) → HasHole G p S ns rs e A h → Gives (env G) (walk G p S ns rs e A) h
so_walk G p S ns rs e A _ (HasHole.has_hole {w = w} d u) =
    joined _ _ (so_way d) (joined _ _ (so_uses fits_before p S.vars w.uses rs u) Ends.is_done)
