-- The marks of tokens, put token by token.
use Rattle.std.proofs.Common.{◌≡◌, ◌≢◌, ℕ, ◌+◌, ◌<◌, ◌≤◌, true, false, List, [], ◌∷◌, ◌++◌, length, drop, get_or, Option, Some, None, Result, Ok, Err, refl, sym, ap, ◌∙◌}
use Rattle.std.proofs.lemmas.List.{at_drop_more, at_drop_all, append-nil}
use Rattle.qtt_lexer.specs.Lexed.{Mistake}
use Rattle.qtt_lexer.specs.declared.token.Token.{Token}
use Rattle.qtt_layout.specs.Rules.{State, Put, role_of, by_column, added, behind, at_end, bad_indent, put_before, by_put, by_role, put_from, counted_of}
use Rattle.qtt_layout.specs.Written.{written, Adds}
use Rattle.qtt_layout.specs.Between.{Lays}
use Rattle.qtt_layout.specs.Answer.{written_of}
use Rattle.qtt_layout.specs.declared.laid.Laid.{Laid}
use Rattle.qtt_layout.specs.declared.marks.Marks.{Marks}
use Rattle.qtt_layout.specs.declared.role.Role.{Role}
use Rattle.qtt_layout.specs.declared.role.Role.TheVariants as role

pub written_of-new : (marks : Marks) (outcome : Result (List Laid) Mistake) → marks.laid.items ≡ [] →
    marks.next ≡ None → written_of marks outcome ≡ counted_of outcome
written_of-new marks (Ok ms) h k = ap Ok (rw (h, k) refl)
written_of-new marks (Err m) h k = refl

more_of : (old new : Marks) (marks : List Laid) (outcome : Result (List Laid) Mistake) → Adds old new marks →
    written_of new outcome ≡ written_of old (put_before marks outcome)
more_of old new marks (Ok rest) h = ap Ok (h rest)
more_of old new marks (Err m) h = refl

not_end : (r : Role) (s : State) (t : Token) (rest : State → Result (List Laid) Mistake) → r ≢ role.End →
    by_role r s t rest ≡ by_put r s t (by_column s t) rest
not_end role.Opener s t rest h = refl
not_end role.LeftBracket s t rest h = refl
not_end role.RightBracket s t rest h = refl
not_end role.Semicolon s t rest h = refl
not_end role.End s t rest h = absurd (h refl)
not_end role.Plain s t rest h = refl

module _ (tokens : List Token) (i : ℕ) (t : Token) (lt : i < length tokens) (t_is : t ≡ get_or tokens i t)
    (r : Role) (s : State) where
  at_token : put_from s (drop i tokens) ≡ put_from s (t ∷ drop (i + 1) tokens)
  at_token =
      at_drop_more (put_from s) tokens i t lt ∙ ap (λ (u : Token). put_from s (u ∷ drop (i + 1) tokens)) (sym t_is)

  by_role_of : r ≡ role_of t.kind →
      put_from s (drop i tokens) ≡ by_role r s t (λ next. put_from next (drop (i + 1) tokens))
  unfolding put_from
  by_role_of e =
      at_token ∙ ap (λ (q : Role). by_role q s t (λ next. put_from next (drop (i + 1) tokens))) (sym e)

  by_put_of : r ≡ role_of t.kind → r ≢ role.End →
      put_from s (drop i tokens) ≡ by_put r s t (by_column s t) (λ next. put_from next (drop (i + 1) tokens))
  by_put_of e ne = by_role_of e ∙ not_end r s t _ ne

  lays_by : (o : Option Put) (old new : Marks) (after : State) (rest : State → Result (List Laid) Mistake) →
      Lays r s t o old new after true → written_of new (rest after) ≡ written_of old (by_put r s t o rest)
  lays_by None old new after rest h = cc
  lays_by (Some put) old new after rest h =
      ap (λ (q : State). written_of new (rest q)) h.2
      ∙ more_of old new (put.marks ++ added r s t put.blocks) (rest (behind r s t put.blocks)) h.1

  pub laid_more : (old new : Marks) (after : State) → r ≡ role_of t.kind → r ≢ role.End →
      Lays r s t (by_column s t) old new after true →
      written_of new (put_from after (drop (i + 1) tokens)) ≡ written_of old (put_from s (drop i tokens))
  laid_more old new after e ne h =
      lays_by (by_column s t) old new after (λ next. put_from next (drop (i + 1) tokens)) h ∙ ap (written_of old)
      (sym (by_put_of e ne))

  bad_by : (o : Option Put) (old new : Marks) (after : State) (rest : State → Result (List Laid) Mistake) →
      Lays r s t o old new after false → by_put r s t o rest ≡ Err (bad_indent t)
  bad_by None old new after rest h = refl
  bad_by (Some put) old new after rest h = absurd (let e = h.0 in cc)

  pub laid_bad : (old new : Marks) (after : State) → r ≡ role_of t.kind → r ≢ role.End →
      Lays r s t (by_column s t) old new after false →
      written_of old (put_from s (drop i tokens)) ≡ Err (bad_indent t)
  laid_bad old new after e ne h = ap (written_of old) (by_put_of e ne ∙ bad_by (by_column s t) old new after _ h)

  pub laid_end : (old new : Marks) → r ≡ role_of t.kind → r ≡ role.End → Adds old new (at_end s t) →
      written_of old (put_from s (drop i tokens)) ≡ Ok (written new [])
  laid_end old new e is h =
      ap (written_of old) (by_role_of e ∙
      ap (λ (q : Role). by_role q s t (λ next. put_from next (drop (i + 1) tokens))) is)
      ∙ ap (λ (ms : List Laid). Ok (written old ms)) (sym (append-nil (at_end s t)))
      ∙ ap Ok (sym (h []))

pub laid_out : (tokens : List Token) (i : ℕ) (s : State) (marks : Marks) → length tokens ≤ i →
    written_of marks (put_from s (drop i tokens)) ≡ Ok (written marks [])
unfolding put_from
laid_out tokens i s marks le = ap (written_of marks) (at_drop_all (put_from s) tokens i le)
