-- The readers of chains are exact.
use Rattle.std.proofs.Common.{◌≡◌, ℕ, zero, suc, Bool, true, false, cond, ◌&&◌, List, [], ◌∷◌, ◌++◌, Option, Some, None, refl, sym, ap, subst, ◌∙◌, append_assoc, inl, inr, codes}
use Rattle.qtt_base.specs.declared.place.Span.{Span}
use Rattle.qtt_base.specs.declared.limits.Quantity.TheVariants as quantity
use Rattle.qtt_usage.specs.declared.mult.Mult.{Mult}
use Rattle.qtt_usage.specs.declared.mult.Mult.TheVariants as mult
use Rattle.qtt_syntax.specs.declared.expr.Local.{Local}
use Rattle.qtt_syntax.specs.Tree.{Tree, Binder}
use Rattle.qtt_syntax.specs.Tree.Tree.{name}
use Rattle.qtt_phrase.specs.Phrase.{Token, ◌then◌, ◌or◌, Above, opens, first}
use Rattle.qtt_phrase.specs.Reading.{Kind, Reader, either_at, perhaps_at, cap_at}
use Rattle.qtt_phrase.specs.Reading.Kind.{too_deep}
use Rattle.qtt_phrase.specs.Reading.Read.{got, bad, over}
use Rattle.qtt_phrase.proofs.Exact.{Begins, begins_token, begins_making, begins_chain, begins_wider, begins_or, begins_above, opens_both}
use Rattle.qtt_phrase.proofs.Chained.{Stops, Judged, Splits, Stuck, Passed, Sample, Started, Choice, or_exact, chosen, judged_is}
use Rattle.qtt_phrase.proofs.Forms.{Reads, make, seq, seq_if, bind, alt, starting, capped, place_of, maybe, leads_nothing, leads_perhaps, nothing_among, among_self, among_either, sample_then, sample_token, sample_none, sample_making}
use Rattle.qtt_grammar.specs.declared.class.Class.{Class}
use Rattle.qtt_grammar.specs.declared.class.Class.TheVariants as class
use Rattle.qtt_grammar.specs.declared.class.Pass.TheVariants.{Counts, Free}
use Rattle.qtt_grammar.specs.declared.lexeme.Lexeme.{Lexeme}
use Rattle.qtt_grammar.specs.declared.stop.Excess.{Excess}
use Rattle.qtt_grammar.specs.Lexeme.{sign, word}
use Rattle.qtt_grammar.specs.Classes.{is_do, is_let, is_zero, is_hole, is_left_paren, is_arrow, is_colon, is_backslash, is_left_brace, is_right_brace, is_wildcard, is_simple, is_bname, is_digit}
use Rattle.qtt_grammar.specs.Limits.{is_full, one_above}
use Rattle.qtt_grammar.specs.Grammar.{Says, of, place, local_of, named_of, mult_of, IsMark, typed_of, second, Opening, Locally, Symbol, Level, Typed, Simple_level, levels}
use Rattle.qtt_grammar.specs.Readers.{LevelReader, named_binder, marked_binder, begins_binder, simple_reader, levels_at}
use Rattle.qtt_grammar.specs.Chain.{chain_excess}
use Rattle.qtt_grammar.specs.ChainReaders.{Pending, behind_type, behind_name, behind_binder, extra_binder_at, ChainReader, codomain_chain_at, pi_chain_at, codomain_at_place, arrow_chain_at, binder_chain_at, expr_chain_at, implicit_chain_at, typing_chain_at, chain_level_at, simple_chain, chains_at}
use Rattle.qtt_grammar.proofs.Decide.{apart, among}
use Rattle.qtt_grammar.proofs.Sets.{goes, app_goes, starts_arrow, starts_other, starts_expr, starts_typing, At}
use Rattle.qtt_grammar.proofs.Looks.{Looks}
use Rattle.qtt_grammar.proofs.Levels.{Inner, up_to, opener, symbol_some, locally_some, typed_reads, app_reads, letting_reads, hole_reads, lambda_reads, doing_reads, arrow_some}
use Rattle.qtt_grammar.proofs.Choices.{Short, Waits, or_true, and_true, binder_waits, first_choice, short_whole, typed_left}
use Rattle.qtt_grammar.proofs.Choices.Short.{paren, one_name, one_digit, digit_and_name}
use Rattle.qtt_grammar.proofs.Inners.{braces_reads, simple_inner, levels_inner, levels_looks}
use Rattle.qtt_grammar.proofs.Chains.{Chains, Codomain, PiStep, CodomainAt, ArrowChain, BinderChain, ExprChain, ImplicitStep, TypingChain, ChainLevel, Simple_chain, chains}

-- chains and their readers that belong together
pub record ChainInner (p : Span) (C : Chains) (Q : ChainReader) : Type 0 where
  pub expr : (n : ℕ) → Reads (At p) (C.expr n) (of starts_expr) (of goes) (Q.expr n)
  pub expr_some : (n : ℕ) → Sample (At p) (C.expr n)
  pub typing : (n : ℕ) → Reads (At p) (C.typing n) (of starts_typing) (of goes) (Q.typing n)
  pub typing_some : (n : ℕ) → Sample (At p) (C.typing n)

-- ---- a binder that is one too many

extra_not_got : (may : Bool) (ls : List Lexeme) (a : Pending) (rest : List Lexeme) →
    extra_binder_at may ls ≡ got a rest → ⊥
extra_not_got may [] a rest e = cc
extra_not_got true (x ∷ ls) a rest e = cc
extra_not_got false (x ∷ ls) a rest e = cc

extra_may : (may : Bool) (ls : List Lexeme) (f : Excess) (rest : List Lexeme) →
    extra_binder_at may ls ≡ over f rest → may ≡ true
extra_may may [] f rest e = absurd cc
extra_may true (x ∷ ls) f rest e = refl
extra_may false (x ∷ ls) f rest e = absurd cc

extra_deep : (may : Bool) → may ≡ false →
    (x : Lexeme) (w : List Lexeme) → extra_binder_at may (x ∷ w) ≡ bad too_deep (x ∷ w)
extra_deep true m x w = absurd cc
extra_deep false m x w = refl

extra_over : (may : Bool) → may ≡ true →
    (x : Lexeme) (w : List Lexeme) →
    extra_binder_at may (x ∷ w) ≡ over (one_above quantity.Parts x.place) (behind_binder w)
extra_over true m x w = refl
extra_over false m x w = absurd cc

abbrev closing : Lexeme
closing = sign class.RightParen (record { line = 0; col = 0; len = 0 })

simple_behind : (y : Lexeme) → of is_simple y ≡ true → behind_name (y ∷ closing ∷ []) ≡ []
simple_behind y e = rw (apart is_wildcard is_simple refl y e) refl

-- where it is open whether a binder begins, one token more doesn't stand behind it
short_behind : (front : List Lexeme) (x : Lexeme) → Short front x →
    (y : Lexeme) × (r : List Lexeme) × (front ++ x ∷ closing ∷ [] ≡ y ∷ r) × (behind_binder r ≡ [])
short_behind front x (paren y e) = (y, closing ∷ [], refl, refl)
short_behind front x (one_name p y e f) =
    (p, y ∷ closing ∷ [], refl, rw (apart is_digit is_simple refl y f) (simple_behind y f))
short_behind front x (one_digit p y e f) = (p, y ∷ closing ∷ [], refl, rw f refl)
short_behind front x (digit_and_name p d y e f g) = (p, d ∷ y ∷ closing ∷ [], refl, rw f (simple_behind y g))

extra_not_over : (may : Bool) (front : List Lexeme) (x : Lexeme) (e : Excess) → Short front x →
    ((z : List Lexeme) → extra_binder_at may (front ++ x ∷ z) ≡ over e z) → ⊥
extra_not_over may front x e sh j =
    let d = short_behind front x sh in
    let m = extra_may may (front ++ x ∷ closing ∷ []) e (closing ∷ []) (j (closing ∷ [])) in
    let u : over (one_above quantity.Parts d.0.place) (behind_binder d.1) ≡ over e (closing ∷ []) =
    sym (extra_over may m d.0 d.1) ∙ sym (ap (extra_binder_at may) d.2) ∙ j (closing ∷ []) in
    let v = d.3 in
    cc

extra_not_bad : (may : Bool) → may ≡ true → (front : List Lexeme) (x : Lexeme) (k : Kind) → Short front x →
    ((z : List Lexeme) → extra_binder_at may (front ++ x ∷ z) ≡ bad k (x ∷ z)) → ⊥
extra_not_bad may m front x k sh j =
    let d = short_whole front x sh [] in
    let u : over (one_above quantity.Parts d.0.place) (behind_binder d.1) ≡ bad k (x ∷ []) =
    sym (extra_over may m d.0 d.1) ∙ sym (ap (extra_binder_at may) d.3) ∙ j [] in
    cc

extra_waits : (may : Bool) → Waits may (extra_binder_at may)
extra_waits may = record {
  not_bad = extra_not_bad may;
  not_over = extra_not_over may;
  deep = λ m x w e. extra_deep may m x w;
}

behind_wild : (n : Lexeme) (s : List Lexeme) → of is_wildcard n ≡ true → behind_name (n ∷ s) ≡ s
behind_wild n [] e = refl
behind_wild n (y ∷ s) e = rw e refl

-- ---- the productions

module _ {p : Span} (may : Bool) (L : Level) (R : LevelReader) (inner : Inner p L R) (C : Chains)
    (Q : ChainReader) (chain : ChainInner p C Q) (looks : may ≡ true → Looks (R.expr false)) where
  codomain_reads : (n : ℕ) → Reads (At p) (Codomain may L C n) (of is_arrow) (of goes) (codomain_chain_at may R Q n)
  codomain_reads n = make second (seq (opener may is_arrow) (chain.expr (suc n)).exact (chain.expr_some (suc n)))

  codomain_some : may ≡ true → (n : ℕ) → Sample (At p) (Codomain may L C n)
  codomain_some m n = sample_making second (arrow_some p (C.expr (suc n)) (chain.expr_some (suc n)) may m)

  typed_may : (us : List Lexeme) (b : Binder) (o : Option Excess) → Typed Free may L us b o → may ≡ true
  typed_may us b o (v, (ws, vs, j, k, e, (x, f, h, w, i), rest, m), made) = (opens_both may (of is_left_paren x) h).0

  pi_step_reads : (n : ℕ) → Reads (At p) (PiStep may L C n) (of is_left_paren) (of goes) (pi_chain_at may R Q n)
  unfolding pi_chain_at
  pi_step_reads n = make second
      (seq_if (typed_reads Free may L R inner) (codomain_reads n).exact
      (λ us b o m. codomain_some (typed_may us b o m) n) leads_nothing)

  codomain_started : (n : ℕ) (x : Lexeme) → opens may (of is_arrow) x ≡ true → Started (Codomain may L C n) (x ∷ [])
  codomain_started n x e = let s =
      chain.expr_some (suc n) in
      record {
        more = s.tokens;
        value = s.value;
        fault = s.fault;
        means = (
          (x.place, s.value),
          (x ∷ [], s.tokens, None, s.fault, refl, (x, refl, e, refl, refl), s.means, refl),
          refl,
        );
      }

  codomain_opens : (n : ℕ) → Begins (Codomain may L C n) (opens may (of is_arrow))
  codomain_opens n = begins_making second (Opening may is_arrow then C.expr (suc n)) (opens may (of is_arrow))
      (begins_chain (Opening may is_arrow) (λ _. C.expr (suc n)) (opens may (of is_arrow))
      (begins_token (λ _. None) (opens may (of is_arrow)) place))

  codomain_case : (n : ℕ) (s : Span) (b : Bool) →
      Reads (At p) (cond b (Above (λ _. one_above quantity.Parts s) (Codomain may L C n)) (Codomain may L C n))
      (of is_arrow) (of goes)
      (cond b (cap_at (opens may (of is_arrow)) (λ _. too_deep) (λ _. one_above quantity.Parts s))
      (codomain_chain_at may R Q n))
  codomain_case n s true = starting (of is_arrow) (λ x e. (opens_both may (of is_arrow x) e).1)
      (capped (λ _. one_above quantity.Parts s) (opens may (of is_arrow)) (λ _. too_deep) (of goes)
      (codomain_opens n) (codomain_started n))
  codomain_case n s false = codomain_reads n

  codomain_at_reads : (n : ℕ) (s : Span) →
      Reads (At p) (CodomainAt may L C n s) (of is_arrow) (of goes) (codomain_at_place may R Q n s)
  unfolding codomain_at_place
  codomain_at_reads n s = codomain_case n s (is_full Counts quantity.Parts n)

  arrow_chain_reads : (n : ℕ) →
      Reads (At p) (ArrowChain may L C n) (of starts_arrow) (of goes) (arrow_chain_at may R Q n)
  unfolding arrow_chain_at
  arrow_chain_reads n =
      make second (bind (place_of place (app_reads Free may L R inner))
      (λ c. maybe (chain_excess n c.1) (of goes) (codomain_at_reads n c.0) (among is_arrow goes refl)
      (among_self (of goes)))
      (λ us c o m. sample_none (chain_excess n c.1) (CodomainAt may L C n c.0))
      (λ c. leads_perhaps (chain_excess n c.1) (codomain_at_reads n c.0).begins (apart app_goes is_arrow refl)
      (among app_goes goes refl)))

  pi_step_left : (n : ℕ) (us rest : List Lexeme) (d : Pending) (o : Option Excess) → PiStep may L C n us d o →
      begins_binder (us ++ rest) ≡ true
  pi_step_left n us rest d o (v, (ws, vs, j, k, e, m, more, f), made) =
      rw (e, append_assoc ws vs rest) (typed_left Free may L ws (vs ++ rest) v.0 j m)

  step_choice : (n : ℕ) → Choice begins_binder (PiStep may L C n) (pi_chain_at may R Q n) (ArrowChain may L C n)
      (arrow_chain_at may R Q n) (of goes)
  unfolding pi_chain_at arrow_chain_at
  step_choice n =
      first_choice second (λ c. perhaps_at (of is_arrow) (chain_excess n c.1) (codomain_at_place may R Q n c.0))
      (λ c. chain_excess n c.1) (λ c. refl) Free R (pi_chain_at may R Q n) may
      (binder_waits second (λ _. codomain_chain_at may R Q n) Free R may) looks (PiStep may L C n)
      (ArrowChain may L C n) (of goes) (pi_step_left n) (arrow_chain_reads n).exact

  -- ---- a binder that is one too many, or an application

  abbrev PiExtra : ℕ → Says Pending
  PiExtra n = Above (λ x. one_above quantity.Parts x.place) (PiStep may L C n)

  pi_extra_left : (n : ℕ) (us rest : List Lexeme) (d : Pending) (o : Option Excess) → PiExtra n us d o →
      begins_binder (us ++ rest) ≡ true
  pi_extra_left n us rest d o (x, r, j, e, m, f) = pi_step_left n us rest d j m

  extra_choice : (n : ℕ) → Choice begins_binder (PiExtra n) (extra_binder_at may) (ArrowChain may L C n)
      (arrow_chain_at may R Q n) (of goes)
  unfolding arrow_chain_at
  extra_choice n =
      first_choice second (λ c. perhaps_at (of is_arrow) (chain_excess n c.1) (codomain_at_place may R Q n c.0))
      (λ c. chain_excess n c.1) (λ c. refl) Free R (extra_binder_at may) may (extra_waits may) looks
      (PiExtra n) (ArrowChain may L C n) (of goes) (pi_extra_left n) (arrow_chain_reads n).exact

  step_may : (n : ℕ) (us : List Lexeme) (d : Pending) (o : Option Excess) → PiStep may L C n us d o → may ≡ true
  step_may n us d o (v, (ws, vs, j, k, e, m, more, f), made) = typed_may ws v.0 j m

  -- a binder begins with these tokens and goes on
  abbrev closed_tokens : ℕ → may ≡ true → List Lexeme
  closed_tokens n m = ((inner.expr_some false).tokens ++ sign class.RightParen p ∷ []) ++ (codomain_some m n).tokens

  step_means : (n : ℕ) (m : may ≡ true) (x : Lexeme) → of is_left_paren x ≡ true →
      (mk : List Lexeme) (q : Mult) → IsMark mk q None → (y c : Lexeme) → of is_bname y ≡ true →
      of is_colon c ≡ true →
      (d : Pending) × (o : Option Excess) × PiStep may L C n (x ∷ (mk ++ y ∷ c ∷ closed_tokens n m)) d o
  step_means n m x e mk q marked y c f g =
      let t = inner.expr_some false in
      let u = codomain_some m n in
      let close = sign class.RightParen p in
      let k = t.tokens ++ close ∷ [] in
      let fault = first t.fault None in
      let opened : opens may (of is_left_paren) x ≡ true = rw m e in
      let raw : Span × (Mult × (Local × (Span × (Tree × Span)))) =
      (x.place, (q, (local_of y, (c.place, (t.value, close.place))))) in (
        u.value,
        first fault u.fault,
        (
          (typed_of raw, u.value),
          (
            x ∷ (mk ++ y ∷ c ∷ k),
            u.tokens,
            fault,
            u.fault,
            ap (λ (z : List Lexeme). x ∷ z) (sym (append_assoc mk (y ∷ c ∷ k) u.tokens)),
            (
              raw,
              (
                x ∷ [],
                mk ++ y ∷ c ∷ k,
                None,
                fault,
                refl,
                (x, refl, opened, refl, refl),
                (
                  mk,
                  y ∷ c ∷ k,
                  None,
                  fault,
                  refl,
                  marked,
                  (
                    y ∷ [],
                    c ∷ k,
                    None,
                    fault,
                    refl,
                    (y, refl, f, refl, refl),
                    (
                      c ∷ [],
                      k,
                      None,
                      fault,
                      refl,
                      (c, refl, g, refl, refl),
                      (t.tokens, close ∷ [], t.fault, None, refl, t.means, (close, refl, refl, refl, refl), refl),
                      refl,
                    ),
                    refl,
                  ),
                  refl,
                ),
                refl,
              ),
              refl,
            ),
            u.means,
            refl,
          ),
          refl,
        ),
      )

  -- where a binder that is one too many is told
  record Told (n : ℕ) (ls : List Lexeme) : Type 0 where
    front : List Lexeme
    last : Lexeme
    rest : List Lexeme
    fault : Excess
    parts : ls ≡ front ++ last ∷ rest
    stays : (s : List Lexeme) → extra_binder_at may (front ++ last ∷ s) ≡ over fault s
    begun : Started (PiExtra n) (front ++ last ∷ [])

  module _ (n : ℕ) (m : may ≡ true) (x : Lexeme) (e : of is_left_paren x ≡ true) (mk : List Lexeme) (q : Mult)
      (marked : IsMark mk q None) (skips : (y : Lexeme) (s : List Lexeme) → of is_bname y ≡ true →
      behind_binder (mk ++ y ∷ s) ≡ behind_name (y ∷ s)) where
    told_wild : (y : Lexeme) (w : List Lexeme) → of is_wildcard y ≡ true → Told n (x ∷ (mk ++ y ∷ w))
    told_wild y w f =
        let c = sign class.Colon p in
        let more = c ∷ closed_tokens n m in
        let s = step_means n m x e mk q marked y c (among is_wildcard is_bname refl y f) refl in
        let way : (x ∷ (mk ++ y ∷ [])) ++ more ≡ x ∷ (mk ++ y ∷ more) =
        ap (λ (z : List Lexeme). x ∷ z) (append_assoc mk (y ∷ []) more) in
        record {
          front = x ∷ mk;
          last = y;
          rest = w;
          fault = one_above quantity.Parts x.place;
          parts = refl;
          stays = λ s. extra_over may m x (mk ++ y ∷ s) ∙
              ap (λ (z : List Lexeme). over (one_above quantity.Parts x.place) z)
              (skips y s (among is_wildcard is_bname refl y f) ∙ behind_wild y s f);
          begun = record {
            more = more;
            value = s.0;
            fault = Some (one_above quantity.Parts x.place);
            means = (
              x,
              (mk ++ y ∷ []) ++ more,
              s.1,
              refl,
              subst (λ (z : List Lexeme). PiStep may L C n z s.0 s.1) (sym way) s.2,
              refl,
            );
          };
        }

    told_name : (y c : Lexeme) (w : List Lexeme) → of is_simple y ≡ true → of is_colon c ≡ true →
        Told n (x ∷ (mk ++ y ∷ c ∷ w))
    told_name y c w f g =
        let more = closed_tokens n m in
        let s = step_means n m x e mk q marked y c (among is_simple is_bname refl y f) g in
        let split = λ (z : List Lexeme). ap (λ (v : List Lexeme). x ∷ v) (append_assoc mk (y ∷ []) (c ∷ z)) in
        let way : ((x ∷ (mk ++ y ∷ [])) ++ c ∷ []) ++ more ≡ x ∷ (mk ++ y ∷ c ∷ more) =
        append_assoc (x ∷ (mk ++ y ∷ [])) (c ∷ []) more ∙ split more in
        record {
          front = x ∷ (mk ++ y ∷ []);
          last = c;
          rest = w;
          fault = one_above quantity.Parts x.place;
          parts = sym (split w);
          stays = λ s. ap (extra_binder_at may) (split s) ∙ extra_over may m x (mk ++ y ∷ c ∷ s) ∙
              ap (λ (z : List Lexeme). over (one_above quantity.Parts x.place) z)
              (skips y (c ∷ s) (among is_simple is_bname refl y f) ∙
              rw (apart is_wildcard is_simple refl y f) refl);
          begun = record {
            more = more;
            value = s.0;
            fault = Some (one_above quantity.Parts x.place);
            means = (
              x,
              ((mk ++ y ∷ []) ++ c ∷ []) ++ more,
              s.1,
              refl,
              subst (λ (z : List Lexeme). PiStep may L C n z s.0 s.1) (sym way) s.2,
              refl,
            );
          };
        }

    told_named : (ls : List Lexeme) → named_binder ls ≡ true → Told n (x ∷ (mk ++ ls))
    told_named [] h = absurd cc
    told_named (y ∷ []) h = told_wild y [] h
    told_named (y ∷ c ∷ w) h =
        elim (or_true (of is_wildcard y) (of is_simple y && of is_colon c) h) [
          | inl k ↦ told_wild y (c ∷ w) k
          | inr k ↦ let b = and_true (of is_simple y) (of is_colon c) k in
              told_name y c w b.0 b.1
        ]

  told_case : (n : ℕ) (m : may ≡ true) (x : Lexeme) (e : of is_left_paren x ≡ true) (y : Lexeme)
      (ls : List Lexeme) (b : Bool) → of is_digit y ≡ b →
      cond b (named_binder ls) (named_binder (y ∷ ls)) ≡ true → Told n (x ∷ y ∷ ls)
  told_case n m x e y ls true f h =
      told_named n m x e (y ∷ []) (mult_of y.class) (inr (y, refl, f, refl, refl)) (λ z s g. rw f refl) ls h
  told_case n m x e y ls false f h =
      told_named n m x e [] mult.Many (inl (refl, refl, refl))
      (λ z s g. rw (apart is_digit is_bname refl z g) refl) (y ∷ ls) h

  told_marked : (n : ℕ) (m : may ≡ true) (x : Lexeme) (e : of is_left_paren x ≡ true) (ls : List Lexeme) →
      marked_binder ls ≡ true → Told n (x ∷ ls)
  told_marked n m x e [] h = absurd cc
  told_marked n m x e (y ∷ ls) h = told_case n m x e y ls (of is_digit y) refl h

  told : (n : ℕ) (m : may ≡ true) (ls : List Lexeme) → begins_binder ls ≡ true → Told n ls
  told n m [] h = absurd cc
  told n m (x ∷ ls) h = let b = and_true (of is_left_paren x) (marked_binder ls) h in told_marked n m x b.0 ls b.1

  abbrev extra_or_arrow : ℕ → Reader Lexeme Excess Pending
  extra_or_arrow n = either_at begins_binder (extra_binder_at may) (arrow_chain_at may R Q n)

  extra_sound : (n : ℕ) (ls : List Lexeme) (a : Pending) (rest : List Lexeme) → extra_or_arrow n ls ≡ got a rest →
      Splits (PiExtra n or ArrowChain may L C n) (extra_or_arrow n) ls a rest
  extra_sound n ls a rest e =
      elim (chosen (begins_binder ls) (extra_binder_at may ls) (arrow_chain_at may R Q n ls) (got a rest) e) [
        | inl c ↦ absurd (extra_not_got may ls a rest c.1)
        | inr c ↦
            let s = (arrow_chain_reads n).exact.sound ls a rest c.1 in
            record {
              front = s.front;
              parts = s.parts;
              means = inr s.means;
              stays = λ x r z h.
                  let whole : ls ≡ s.front ++ x ∷ r = s.parts ∙ ap (λ (m : List Lexeme). s.front ++ m) h in
                  rw ((extra_choice n).right_got s.front x r z a s.means (sym (ap begins_binder whole) ∙ c.0))
                  (s.stays x r z h);
            }
      ]

  extra_complete : (n : ℕ) (us : List Lexeme) (a : Pending) (o : Option Excess) (rest : List Lexeme) →
      (PiExtra n or ArrowChain may L C n) us a o → Stops (of goes) rest →
      Judged o a rest (extra_or_arrow n (us ++ rest))
  extra_complete n us a o rest (inl (x, r, j, e, m, f)) h =
      rw ((extra_choice n).left us rest a o (x, r, j, e, m, f))
      (judged_is o (Some (one_above quantity.Parts x.place)) a rest (extra_binder_at may (us ++ rest)) (sym f) (
        behind_binder (r ++ rest),
        ap (λ (z : List Lexeme). extra_binder_at may (z ++ rest)) e ∙ extra_over may
            (step_may n us a j m) x (r ++ rest),
      ))
  extra_complete n us a o rest (inr m) h =
      rw ((extra_choice n).right us rest a o m h) ((arrow_chain_reads n).exact.complete us a o rest m h)

  extra_stuck_at : (n : ℕ) (b : Bool) → may ≡ b → (ls : List Lexeme) (k : Kind) (rest : List Lexeme) →
      begins_binder ls ≡ true → extra_binder_at may ls ≡ bad k rest →
      Stuck (At p) (PiExtra n or ArrowChain may L C n) (extra_or_arrow n) ls k rest
  extra_stuck_at n b m [] k rest h e = absurd cc
  extra_stuck_at n true m (x ∷ ls) k rest h e = absurd (let u = extra_over may m x ls in cc)
  extra_stuck_at n false m (x ∷ ls) k rest h e =
      let u = extra_deep may m x ls in
      let k-is : too_deep ≡ k = cc in
      let rest-is : x ∷ ls ≡ rest = cc in
      record {
        front = [];
        parts = rest-is;
        stays = λ y r s j.
            let same : x ≡ y = cc in
            subst (λ (v : Lexeme). extra_or_arrow n (v ∷ s) ≡ bad k (v ∷ s)) same
            ((extra_choice n).left_bad [] x ls s k
            (λ z. extra_deep may m x z ∙ ap (λ (c : Kind). bad c (x ∷ z)) k-is) h);
        goes = inl refl;
      }

  extra_stuck : (n : ℕ) (ls : List Lexeme) (k : Kind) (rest : List Lexeme) → extra_or_arrow n ls ≡ bad k rest →
      Stuck (At p) (PiExtra n or ArrowChain may L C n) (extra_or_arrow n) ls k rest
  extra_stuck n ls k rest e =
      elim (chosen (begins_binder ls) (extra_binder_at may ls) (arrow_chain_at may R Q n ls) (bad k rest) e) [
        | inl c ↦ extra_stuck_at n may refl ls k rest c.0 c.1
        | inr c ↦
            let s = (arrow_chain_reads n).exact.stuck ls k rest c.1 in
            record {
              front = s.front;
              parts = s.parts;
              stays = λ x r z h.
                  let whole : ls ≡ s.front ++ x ∷ r = s.parts ∙ ap (λ (m : List Lexeme). s.front ++ m) h in
                  (extra_choice n).right_bad s.front x r z k (λ w. s.stays x r w h)
                  (sym (ap begins_binder whole) ∙ c.0);
              goes = elim s.goes [
                | inl none ↦ inl none
                | inr go ↦
                    inr (record {
                      more = go.more;
                      value = go.value;
                      fault = go.fault;
                      means = inr go.means;
                      mild = go.mild;
                    })
              ];
            }
      ]

  extra_passed : (n : ℕ) (ls : List Lexeme) (f : Excess) (rest : List Lexeme) →
      extra_or_arrow n ls ≡ over f rest → Passed (PiExtra n or ArrowChain may L C n) (extra_or_arrow n) ls f rest
  extra_passed n ls f rest e =
      elim (chosen (begins_binder ls) (extra_binder_at may ls) (arrow_chain_at may R Q n ls) (over f rest) e) [
        | inl c ↦
            let t = told n (extra_may may ls f rest c.1) ls c.0 in
            let read : over t.fault t.rest ≡ over f rest =
            sym (t.stays t.rest) ∙ sym (ap (extra_binder_at may) t.parts) ∙ c.1 in
            let fault-is : t.fault ≡ f = cc in
            let rest-is : t.rest ≡ rest = cc in
            record {
              front = t.front;
              last = t.last;
              parts = t.parts ∙ ap (λ (z : List Lexeme). t.front ++ t.last ∷ z) rest-is;
              stays = λ s. (extra_choice n).left_over t.front t.last t.rest s f
                  (λ z. t.stays z ∙ ap (λ (g : Excess). over g z) fault-is)
                  (sym (ap begins_binder t.parts) ∙ c.0);
              begun = record {
                more = t.begun.more;
                value = t.begun.value;
                fault = t.begun.fault;
                means = inl t.begun.means;
              };
            }
        | inr c ↦
            let s = (arrow_chain_reads n).exact.passed ls f rest c.1 in
            record {
              front = s.front;
              last = s.last;
              parts = s.parts;
              stays = λ z. (extra_choice n).right_over s.front s.last rest z f s.stays
                  (sym (ap begins_binder s.parts) ∙ c.0);
              begun = record {
                more = s.begun.more;
                value = s.begun.value;
                fault = s.begun.fault;
                means = inr s.begun.means;
              };
            }
      ]

  -- ---- all forms of expressions

  binder_case : (n : ℕ) (b : Bool) →
      Reads (At p) (cond b (PiExtra n) (PiStep may L C n) or ArrowChain may L C n) (of starts_arrow) (of goes)
      (either_at begins_binder (cond b (extra_binder_at may) (pi_chain_at may R Q n)) (arrow_chain_at may R Q n))
  binder_case n true = record {
    exact = record {
      sound = extra_sound n;
      complete = extra_complete n;
      stuck = extra_stuck n;
      passed = extra_passed n;
    };
    begins = begins_or (PiExtra n) (ArrowChain may L C n) (of starts_arrow)
        (begins_wider (PiExtra n) (of is_left_paren) (of starts_arrow) (among is_left_paren starts_arrow refl)
        (begins_above (λ x. one_above quantity.Parts x.place) (PiStep may L C n) (of is_left_paren)
        (pi_step_reads n).begins)) (arrow_chain_reads n).begins;
  }
  binder_case n false = record {
    exact = or_exact (At p) begins_binder (PiStep may L C n) (pi_chain_at may R Q n) (ArrowChain may L C n)
        (arrow_chain_at may R Q n) (of goes) (of goes) (of goes) (pi_step_reads n).exact
        (arrow_chain_reads n).exact (λ ls e. (e, e)) (step_choice n);
    begins = begins_or (PiStep may L C n) (ArrowChain may L C n) (of starts_arrow)
        (begins_wider (PiStep may L C n) (of is_left_paren) (of starts_arrow)
        (among is_left_paren starts_arrow refl) (pi_step_reads n).begins) (arrow_chain_reads n).begins;
  }

  binder_chain_reads : (n : ℕ) →
      Reads (At p) (BinderChain may L C n) (of starts_arrow) (of goes) (binder_chain_at may R Q n)
  unfolding binder_chain_at
  binder_chain_reads n = binder_case n (is_full Counts quantity.Parts n)

  abbrev do_or_arrow : Class → Bool
  do_or_arrow class.Do = true
  do_or_arrow c = starts_arrow c

  abbrev function_or_do : Class → Bool
  function_or_do class.Backslash = true
  function_or_do c = do_or_arrow c

  expr_chain_reads : (n : ℕ) → Reads (At p) (ExprChain may L C n) (of starts_expr) (of goes) (expr_chain_at may R Q n)
  unfolding expr_chain_at
  expr_chain_reads n =
      let third = starting (of do_or_arrow)
      (among_either (of is_do) (of starts_arrow) (of do_or_arrow) (among is_do do_or_arrow refl)
      (among starts_arrow do_or_arrow refl))
      (alt (of goes) (make (λ _. None) (doing_reads Free may L R inner false)) (binder_chain_reads n)
      (apart is_do starts_arrow refl) (nothing_among (of goes)) (among_self (of goes))) in
      let second = starting (of function_or_do)
      (among_either (of is_backslash) (of do_or_arrow) (of function_or_do)
      (among is_backslash function_or_do refl) (among do_or_arrow function_or_do refl))
      (alt (of goes) (make (λ _. None) (lambda_reads Free may L R inner false)) third
      (apart is_backslash do_or_arrow refl) (among_self (of goes)) (among_self (of goes))) in
      let other = starting (of starts_other)
      (among_either (of is_hole) (of function_or_do) (of starts_other) (among is_hole starts_other refl)
      (among function_or_do starts_other refl))
      (alt (of goes) (make (λ _. None) (hole_reads Free may L R inner false)) second
      (apart is_hole function_or_do refl) (nothing_among (of goes)) (among_self (of goes))) in
      starting (of starts_expr)
      (among_either (of is_let) (of starts_other) (of starts_expr) (among is_let starts_expr refl)
      (among starts_other starts_expr refl))
      (alt (of goes) (make (λ _. None) (letting_reads Free may L R inner false)) other
      (apart is_let starts_other refl) (among_self (of goes)) (among_self (of goes)))

  expr_chain_some : (n : ℕ) → Sample (At p) (ExprChain may L C n)
  expr_chain_some n =
      let x = word class.Small p (codes "a") in
      let k = named_of x in
      record {
        tokens = x ∷ [];
        value = None;
        fault = None;
        means = inr
            (inr
            (inr (inr (inr (
              ((p, name k), None),
              (
                x ∷ [],
                [],
                None,
                None,
                refl,
                (
                  x,
                  [],
                  refl,
                  refl,
                  inr
                      (inl (
                        (k, ([], [])),
                        (
                          x ∷ [],
                          [],
                          None,
                          None,
                          refl,
                          (x, refl, refl, refl, refl),
                          ([], [], None, None, refl, (refl, refl), (refl, refl), refl),
                          refl,
                        ),
                        refl,
                      )),
                ),
                inl (refl, refl, refl),
                refl,
              ),
              refl,
            )))));
        mild = tt;
      }

  -- ---- brace binders

  implicit_opens : (n : ℕ) → Begins (ImplicitStep may L C n) (opens may (of is_left_brace))
  implicit_opens n = begins_making behind_type
      (Opening may is_left_brace then Token (of is_zero) (λ x. mult_of x.class) then Locally is_simple then Symbol
      is_colon then L.expr false then Symbol is_right_brace then Opening may is_arrow then C.typing (suc n))
      (opens may (of is_left_brace))
      (begins_chain (Opening may is_left_brace)
      (λ _. Token (of is_zero) (λ x. mult_of x.class) then Locally is_simple then Symbol is_colon then L.expr
      false then Symbol is_right_brace then Opening may is_arrow then C.typing (suc n))
      (opens may (of is_left_brace)) (begins_token (λ _. None) (opens may (of is_left_brace)) place))

  implicit_rest : may ≡ true →
      (n : ℕ) → Sample (At p)
      (Token (of is_zero) (λ x. mult_of x.class) then Locally is_simple then Symbol is_colon then L.expr false
      then Symbol is_right_brace then Opening may is_arrow then C.typing (suc n))
  implicit_rest m n = sample_then (sample_token (of is_zero) (λ x. mult_of x.class) (sign class.Zero p) refl)
      (sample_then (locally_some is_simple class.Small refl)
      (sample_then (symbol_some is_colon class.Colon refl)
      (sample_then (inner.expr_some false)
      (sample_then (symbol_some is_right_brace class.RightBrace refl)
      (arrow_some p (C.typing (suc n)) (chain.typing_some (suc n)) may m)))))

  implicit_started : (n : ℕ) (x : Lexeme) → opens may (of is_left_brace) x ≡ true →
      Started (ImplicitStep may L C n) (x ∷ [])
  implicit_started n x e =
      let s = implicit_rest (opens_both may (of is_left_brace x) e).0 n in
      record {
        more = s.tokens;
        value = behind_type (x.place, s.value);
        fault = s.fault;
        means = (
          (x.place, s.value),
          (x ∷ [], s.tokens, None, s.fault, refl, (x, refl, e, refl, refl), s.means, refl),
          refl,
        );
      }

  implicit_chain_reads : (n : ℕ) →
      Reads (At p) (cond (is_full Counts quantity.Parts n)
      (Above (λ x. one_above quantity.Parts x.place) (ImplicitStep may L C n)) (ImplicitStep may L C n))
      (of is_left_brace) (of goes) (implicit_chain_at may R Q n)
  unfolding implicit_chain_at
  implicit_chain_reads n =
      let step = braces_reads may L R inner behind_type (chain.typing (suc n)).exact (chain.typing_some (suc n)) in
      starting (of is_left_brace) (λ x e. (opens_both may (of is_left_brace x) e).1)
      (up_to Counts quantity.Parts (λ _. too_deep) n
      (record { exact = step.exact; begins = implicit_opens n }) (implicit_started n))

  typing_chain_reads : (n : ℕ) →
      Reads (At p) (TypingChain may L C n) (of starts_typing) (of goes) (typing_chain_at may R Q n)
  unfolding typing_chain_at
  typing_chain_reads n = starting (of starts_typing)
      (among_either (of is_left_brace) (of starts_expr) (of starts_typing)
      (among is_left_brace starts_typing refl) (among starts_expr starts_typing refl))
      (alt (of goes) (implicit_chain_reads n) (expr_chain_reads n) (apart is_left_brace starts_expr refl)
      (among_self (of goes)) (among_self (of goes)))

  pub chain_level_inner : ChainInner p (ChainLevel may L C) (chain_level_at may R Q)
  chain_level_inner = record {
    expr = expr_chain_reads;
    expr_some = expr_chain_some;
    typing = typing_chain_reads;
    typing_some = λ n. let s =
        expr_chain_some n in record {
          tokens = s.tokens;
          value = s.value;
          fault = s.fault;
          means = inr s.means;
          mild = s.mild;
        };
  }

-- ---- all levels

simple_chain_inner : (p : Span) → ChainInner p Simple_chain simple_chain
simple_chain_inner p =
    let i = simple_inner p in
    record {
      expr = λ n. make (λ _. None) (i.expr false);
      expr_some = λ n. sample_making (λ _. None) (i.expr_some false);
      typing = λ n. make (λ _. None) i.typing;
      typing_some = λ n. sample_making (λ _. None) i.typing_some;
    }

pub chains_inner : (p : Span) (d : ℕ) → ChainInner p (chains d) (chains_at d)
unfolding chains chains_at
chains_inner p zero = chain_level_inner false Simple_level simple_reader
    (simple_inner p) Simple_chain simple_chain (simple_chain_inner p) (λ e. absurd cc)
chains_inner p (suc d) = chain_level_inner true (levels Free d) (levels_at Free d) (levels_inner p Free d)
    (chains d) (chains_at d) (chains_inner p d) (λ e. levels_looks Free d)
