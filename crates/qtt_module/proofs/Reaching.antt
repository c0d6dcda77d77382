-- The clauses that have leaves, one clause after another.
use Rattle.std.proofs.Common.{◌≡◌, ◌∙◌, ℕ, suc, ◌+◌, ◌<◌, ◌≤◌, true, false, eqb, List, [], ◌∷◌, length, get_or, map, drop, sym, ap, arith}
use Rattle.std.specs.List.{list_any}
use Rattle.std.proofs.lemmas.List.{drop_more, drop_all}
use Rattle.qtt_syntax.specs.declared.module.Clause as code_clause
use Rattle.qtt_term.specs.Signature.{Env}
use Rattle.qtt_term.specs.Ask.{within, ◌>>=◌}
use Rattle.qtt_rules.specs.Refusal.{Cause}
use Rattle.qtt_rules.specs.Asks.{Asks, need}
use Rattle.qtt_bidi.specs.Answers.{Reaches, Fails}
use Rattle.qtt_bidi.proofs.Within.{on_done, holds, unmet, fails_here}
use Rattle.qtt_split.specs.Calls.{clause_of}
use Rattle.qtt_split.specs.Group.{Defined, reaches}
use Rattle.qtt_split.specs.Tests.{Test, at}
use Rattle.qtt_split.specs.Tree.{Leaf}
use Rattle.qtt_module.proofs.Onward.{past, reached-so}

module _ (E : Env) (n : ℕ) (D : Defined) (ls : List Leaf) where
  abbrev pub from_clause : ℕ → List code_clause.Clause → Asks (Unit {0})
  from_clause i cs = reaches D ls i (map clause_of cs)

  abbrev pub ReachedSoFar : List code_clause.Clause → ℕ → Type 0
  ReachedSoFar cs i = within E n (from_clause 0 cs) ≡ within E n (from_clause i (drop i cs))

  module _ (cs : List code_clause.Clause) (i : ℕ) (c : code_clause.Clause) (h : i < length cs)
      (e : c ≡ get_or cs i c) (so : ReachedSoFar cs i) where
    abbrev own : Asks (Unit {0})
    own = need (list_any (λ (l : Leaf). eqb l.clause i) ls) (Cause.unreachable D.name) (at c.span Test.reached)

    abbrev others : List code_clause.Clause
    others = drop (i + 1) cs

    turn : within E n (from_clause 0 cs) ≡ within E n (own >>= (λ u. from_clause (suc i) others))
    turn = so ∙ ap (λ xs. within E n (from_clause i xs)) (drop_more cs i c h ∙ ap (λ y. y ∷ others) (sym e))

    pub one-reached : list_any (λ (l : Leaf). eqb l.clause i) ls ≡ true → ReachedSoFar cs (i + 1)
    one-reached t =
        let next : suc i ≡ i + 1 = omega arith in
        turn ∙ past E n own (λ u. from_clause (suc i) others) tt (holds _ _ _ t)
        ∙ ap (λ j. within E n (from_clause j others)) next

    pub unreached : list_any (λ (l : Leaf). eqb l.clause i) ls ≡ false →
        Fails E n (from_clause 0 cs) (Cause.unreachable D.name) (at c.span Test.reached)
    unreached t =
        let f = fails_here {m = own} (λ u. from_clause (suc i) others) (unmet _ _ _ t) in
        record { is = turn ∙ f.is }

  pub all-reached : (cs : List code_clause.Clause) (i : ℕ) → length cs ≤ i → ReachedSoFar cs i →
      Reaches E n (from_clause 0 cs) tt
  all-reached cs i h so =
      reached-so E n (from_clause i []) (from_clause 0 cs) tt
      (so ∙ ap (λ xs. within E n (from_clause i xs)) (drop_all i cs h)) on_done
