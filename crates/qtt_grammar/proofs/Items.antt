-- The readers of items and of modules are exact.
use Rattle.std.proofs.Common.{◌≡◌, ℕ, suc, Bool, true, false, cond, List, [], ◌∷◌, ◌++◌, Option, Some, None, refl, sym, ap, append_assoc, inl, inr, codes}
use Rattle.qtt_base.specs.declared.place.Span.{Span}
use Rattle.qtt_base.specs.declared.limits.Quantity.TheVariants as quantity
use Rattle.qtt_syntax.specs.declared.expr.Local.{Local}
use Rattle.qtt_syntax.specs.Tree.{Shape, Con}
use Rattle.qtt_phrase.specs.Phrase.{◌then◌, Making, ◌or◌, Run, Above, Perhaps, opens, first}
use Rattle.qtt_phrase.specs.Reading.{begins, cap_at, then_at}
use Rattle.qtt_phrase.specs.Reading.Kind.{unexpected}
use Rattle.qtt_phrase.proofs.Exact.{Begins, begins_making, begins_wider, opens_both}
use Rattle.qtt_phrase.proofs.Chained.{Exact, Sample, Started, nothing, making_exact}
use Rattle.qtt_phrase.proofs.Forms.{Reads, tok, make, seq, join, follow, bind, then_exact, alt, starting, maybe, capped, counted, leads_begins, leads_nothing, leads_run, nothing_among, among_self, among_either, sample_then, sample_token, sample_none, sample_run, sample_making}
use Rattle.qtt_grammar.specs.declared.class.Class.{Class}
use Rattle.qtt_grammar.specs.declared.class.Class.TheVariants as class
use Rattle.qtt_grammar.specs.declared.class.Pass.{Pass}
use Rattle.qtt_grammar.specs.declared.class.Pass.TheVariants.{Counts, Free}
use Rattle.std.proofs.lemmas.List.{append-nil}
use Rattle.qtt_grammar.specs.Classes.{is_open, is_next, is_close, is_module, is_import, is_data, is_where, is_partial, is_zero, is_left_paren, is_right_paren, is_colon, is_equals, is_name, is_simple, is_big, starts_pattern, starts_item}
use Rattle.qtt_grammar.specs.declared.lexeme.Lexeme.{Lexeme}
use Rattle.qtt_grammar.specs.Lexeme.{sign, word}
use Rattle.qtt_grammar.specs.declared.stop.Excess.{Excess}
use Rattle.qtt_grammar.specs.Limits.{is_full, one_above}
use Rattle.qtt_grammar.specs.Grammar.{Says, of, place, Symbol, local_of, Locally, IsZero, Up_to, Counted, Level, Place, start, listed, clauses_before, next_place, param_of, con_of, next_con_of, cons_of, family_of, partial_of, erased_of, signature_of, clause_of, second, import_of, module_of, IsParam, IsCon, Cons, IsFamily, Partial, Erased, Signing, Equation, Clause, Defining, IsItem, IsImport, IsEntry, IsModule, IsText, levels}
use Rattle.qtt_grammar.specs.Readers.{symbol_at, local_at, zero_at, up_to_at, LevelReader, starts_equation, param_at, params_at, con_at, next_con_at, more_cons_at, cons_at, family_at, partial_at, erased_at, signing_at, clause_patterns_at, equation_at, clause_at, defining_at, item_at, import_at, entry_at, entries_at, module_at, text_at, levels_at, pattern_starts}
use Rattle.qtt_grammar.proofs.Decide.{apart, among, every, implies}
use Rattle.qtt_grammar.proofs.Sets.{goes, At}
use Rattle.qtt_grammar.proofs.Levels.{Inner, Headed, symbol, symbol_some, opener, locally, locally_some, zero_exact, zero_some, up_to, up_to_some}
use Rattle.qtt_grammar.proofs.Inners.{levels_inner}

-- what begins a run, or what stands behind it where it is empty
run_begins : {A B S : Type 0} (ends goes : S → Bool) (next : S → A → S) (P : S → Says A) (R : Says B)
    (t : Lexeme → Bool) → ((s : S) → Begins (P s) t) → Begins R t →
    (s : S) (us ws rest : List Lexeme) (as' : List A) (b : B) (o q : Option Excess) →
    Run ends goes next P s us as' o → R ws b q → begins t (us ++ (ws ++ rest)) ≡ true
run_begins ends goes next P R t bp br s us ws rest [] b o q (e, n, f) m = rw e (br.at ws rest b q m)
run_begins ends goes next P R t bp br s us ws rest (a ∷ more) b o q (vs, xs, i, j, e, go, m, ms, f) n =
    rw (e, append_assoc vs xs (ws ++ rest)) ((bp s).at vs (xs ++ (ws ++ rest)) a i m)

begins_run_then : {A B S : Type 0} (ends goes : S → Bool) (next : S → A → S) (P : S → Says A) (R : Says B) (s : S)
    (t : Lexeme → Bool) → ((s : S) → Begins (P s) t) → Begins R t → Begins (Run ends goes next P s then R) t
begins_run_then ends goes next P R s t bp br =
    record {
      at = λ us rest c o m. rw (m.4, append_assoc m.0 m.1 rest)
          (run_begins ends goes next P R t bp br s m.0 m.1 rest c.0 c.1 m.2 m.3 m.5 m.6);
    }

among_at : (t u : Class → Bool) → every (λ c. implies (t c) (u c)) ≡ true →
    (ls : List Lexeme) → begins (of t) ls ≡ true → begins (of u) ls ≡ true
among_at t u h [] e = absurd cc
among_at t u h (x ∷ ls) e = among t u h x e

full_zero : (pass : Pass) → is_full pass quantity.Parts 0 ≡ false
full_zero Counts = refl
full_zero Free = refl

-- a first pattern is not above the limit
none_before : (pass : Pass) (P : Says Shape) (ts : List Lexeme) (s : Shape) (o : Option Excess) → P ts s o →
    Up_to pass quantity.Parts 0 P ts s o
none_before pass P ts s o m = rw (full_zero pass) m

module _ {p : Span} (pass : Pass) (T L : Level) (Q R : LevelReader) (top : Inner p T Q) (inner : Inner p L R)
    (whole : (x : Lexeme) → of starts_pattern x ≡ true → Q.starts_pattern x ≡ true) where
  abbrev a_name : Lexeme
  a_name = word class.Small p (codes "a")

  -- ---- parameters

  param_rest : Exact (At p)
      (IsZero then Locally is_simple then Symbol is_colon then L.expr false then Symbol is_right_paren) nothing
      (then_at zero_at (then_at (local_at is_simple)
      (then_at (symbol_at is_colon) (then_at (R.expr false) (symbol_at is_right_paren)))))
  param_rest =
      let close = join (inner.expr false) (symbol is_right_paren)
      (symbol_some is_right_paren class.RightParen refl) (apart goes is_right_paren refl) in
      let close_some = sample_then (inner.expr_some false) (symbol_some is_right_paren class.RightParen refl) in
      let colon = seq (symbol is_colon) close.exact close_some in
      let colon_some = sample_then (symbol_some is_colon class.Colon refl) close_some in
      let named = seq (locally is_simple) colon.exact colon_some in
      then_exact zero_exact named.exact (sample_then (locally_some is_simple class.Small refl) colon_some)
      (leads_begins named.begins (apart is_zero is_simple refl))

  rest_some : Sample (At p)
      (IsZero then Locally is_simple then Symbol is_colon then L.expr false then Symbol is_right_paren)
  rest_some = sample_then zero_some
      (sample_then (locally_some is_simple class.Small refl)
      (sample_then (symbol_some is_colon class.Colon refl)
      (sample_then (inner.expr_some false) (symbol_some is_right_paren class.RightParen refl))))

  param_reads : Reads (At p) (IsParam pass T L) (of is_left_paren) nothing (param_at pass Q R)
  unfolding param_at
  param_reads = make param_of (seq (opener true is_left_paren) param_rest rest_some)

  param_starts : (x : Lexeme) → of is_left_paren x ≡ true → Started (IsParam pass T L) (x ∷ [])
  unfolding sample_making sample_then sample_token
  param_starts x e = let s =
      sample_making param_of (sample_then (sample_token (opens true (of is_left_paren)) place x e) rest_some) in
      record { more = rest_some.tokens; value = s.value; fault = s.fault; means = s.means }

  pub params_exact : (n : ℕ) →
      Exact (At p) (Counted pass quantity.Parts n (IsParam pass T L)) (of is_left_paren) (params_at pass Q R n)
  unfolding params_at
  params_exact n = counted (λ n _. suc n) (λ n. Up_to pass quantity.Parts n (IsParam pass T L)) (of is_left_paren)
      (λ n. up_to pass quantity.Parts (λ _. unexpected) n param_reads param_starts) (λ x e. refl)
      (among_self (of is_left_paren)) (nothing_among (of is_left_paren)) n

  -- ---- constructors

  typing_behind : Reads (At p) (Symbol is_colon then T.typing) (of is_colon) (of goes)
      (then_at (symbol_at is_colon) Q.typing)
  typing_behind = seq (symbol is_colon) top.typing.exact top.typing_some

  typing_some : Sample (At p) (Symbol is_colon then T.typing)
  typing_some = sample_then (symbol_some is_colon class.Colon refl) top.typing_some

  con_reads : Reads (At p) (IsCon pass T L) (of is_big) (of goes) (con_at pass Q R)
  unfolding con_at
  con_reads = make con_of (seq (locally is_big) typing_behind.exact typing_some)

  con_some : Headed p (IsCon pass T L)
  unfolding sample_making sample_then sample_token
  con_some =
      let x = word class.Big p (codes "A") in
      record {
        sample = sample_making con_of (sample_then (sample_token (of is_big) local_of x refl) typing_some);
        head = x;
        rest = typing_some.tokens;
        tokens = refl;
        place = refl;
      }

  con_starts : (x : Lexeme) → of is_big x ≡ true → Started (IsCon pass T L) (x ∷ [])
  unfolding sample_making sample_then sample_token
  con_starts x e = let s = sample_making con_of (sample_then (sample_token (of is_big) local_of x e) typing_some)
      in record { more = typing_some.tokens; value = s.value; fault = s.fault; means = s.means }

  abbrev next_or_goes : Class → Bool
  next_or_goes class.Next = true
  next_or_goes c = goes c

  abbrev NextCon : ℕ → Says Con
  NextCon n = Making next_con_of (Symbol is_next then Up_to pass quantity.Constructors n (IsCon pass T L))

  next_con_reads : (n : ℕ) → Reads (At p) (NextCon n) (of is_next) (of goes) (next_con_at pass Q R n)
  unfolding next_con_at
  next_con_reads n = make next_con_of
      (seq (symbol is_next) (up_to pass quantity.Constructors (λ _. unexpected) n con_reads con_starts).exact
      (up_to_some pass quantity.Constructors n con_some))

  more_cons_exact : (n : ℕ) →
      Exact (At p) (Run (λ _. true) (λ _. true) (λ n _. suc n) NextCon n) (of next_or_goes)
      (more_cons_at pass Q R n)
  unfolding more_cons_at
  more_cons_exact n = counted (λ n _. suc n) NextCon (of next_or_goes) next_con_reads (apart goes is_next refl)
      (among is_next next_or_goes refl) (among goes next_or_goes refl) n

  abbrev big_or_next : Class → Bool
  big_or_next class.Big = true
  big_or_next class.Next = true
  big_or_next c = goes c

  cons_exact : Exact (At p) (Cons pass T L) (of big_or_next) (cons_at pass Q R)
  unfolding cons_at
  cons_exact = maybe [] (of big_or_next)
      (make cons_of (follow con_reads (more_cons_exact 1) (sample_run (λ n _. suc n) NextCon 1)
      (leads_run (λ _. true) (λ _. true) (λ n _. suc n) NextCon 1 (λ n. (next_con_reads n).begins)
      (apart goes is_next refl) (among goes next_or_goes refl)))) (among is_big big_or_next refl)
      (among next_or_goes big_or_next refl)

  cons_some : Sample (At p) (Cons pass T L)
  cons_some = sample_none [] (Making cons_of (IsCon pass T L then Run (λ _. true) (λ _. true) (λ n _. suc n) NextCon 1))

  -- ---- families

  family_rest_some : Sample (At p)
      (Locally is_big then Counted pass quantity.Parts 0 (IsParam pass T L) then Symbol is_colon then T.expr false
      then Symbol is_where then Symbol is_open then Cons pass T L then Symbol is_close)
  family_rest_some =
      sample_then (locally_some is_big class.Big refl)
      (sample_then (sample_run (λ n _. suc n) (λ n. Up_to pass quantity.Parts n (IsParam pass T L)) 0)
      (sample_then (symbol_some is_colon class.Colon refl)
      (sample_then (top.expr_some false)
      (sample_then (symbol_some is_where class.Where refl)
      (sample_then (symbol_some is_open class.Open refl)
      (sample_then cons_some (symbol_some is_close class.Close refl)))))))

  family_reads : Reads (At p) (IsFamily pass T L) (of is_data) nothing (family_at pass Q R)
  unfolding family_at
  family_reads =
      let close_some = symbol_some is_close class.Close refl in
      let cons = then_exact cons_exact (symbol is_close).exact close_some
      (leads_begins (symbol {p = p} is_close).begins (apart big_or_next is_close refl)) in
      let cons_close = sample_then cons_some close_some in
      let block = seq (symbol is_open) cons cons_close in
      let block_some = sample_then (symbol_some is_open class.Open refl) cons_close in
      let behind = seq (symbol is_where) block.exact block_some in
      let behind_some = sample_then (symbol_some is_where class.Where refl) block_some in
      let type = join (top.expr false) behind behind_some (apart goes is_where refl) in
      let type_some = sample_then (top.expr_some false) behind_some in
      let colon = seq (symbol is_colon) type.exact type_some in
      let colon_some = sample_then (symbol_some is_colon class.Colon refl) type_some in
      let params = then_exact (params_exact 0) colon.exact colon_some
      (leads_begins colon.begins (apart is_left_paren is_colon refl)) in
      let params_some = sample_then
      (sample_run (λ n _. suc n) (λ n. Up_to pass quantity.Parts n (IsParam pass T L)) 0) colon_some in
      let named = seq (locally is_big) params params_some in
      make family_of (seq (symbol is_data) named.exact (sample_then (locally_some is_big class.Big refl) params_some))

  family_starts : (x : Lexeme) → of is_data x ≡ true → Started (IsFamily pass T L) (x ∷ [])
  unfolding sample_making sample_then sample_token
  family_starts x e = let s =
      sample_making family_of (sample_then (sample_token (of is_data) place x e) family_rest_some) in
      record { more = family_rest_some.tokens; value = s.value; fault = s.fault; means = s.means }

  -- ---- signatures

  named_typing : Reads (At p) (Locally is_simple then Symbol is_colon then T.typing) (of is_simple) (of goes)
      (then_at (local_at is_simple) (then_at (symbol_at is_colon) Q.typing))
  named_typing = seq (locally is_simple) typing_behind.exact typing_some

  named_typing_some : Sample (At p) (Locally is_simple then Symbol is_colon then T.typing)
  named_typing_some = sample_then (locally_some is_simple class.Small refl) typing_some

  zero_typing : Exact (At p) (IsZero then Locally is_simple then Symbol is_colon then T.typing) (of goes)
      (then_at zero_at (then_at (local_at is_simple) (then_at (symbol_at is_colon) Q.typing)))
  zero_typing = then_exact zero_exact named_typing.exact named_typing_some
      (leads_begins named_typing.begins (apart is_zero is_simple refl))

  abbrev zero_or_simple : Class → Bool
  zero_or_simple class.Zero = true
  zero_or_simple c = is_simple c

  zero_typing_begins_at : (us rest : List Lexeme) (c : _) (o : Option Excess) →
      (IsZero then Locally is_simple then Symbol is_colon then T.typing) us c o →
      begins (of zero_or_simple) (us ++ rest) ≡ true
  zero_typing_begins_at us rest c o (ws, vs, j, k, e, inl (f, v, i), m, l) =
      rw (e, f) (among_at is_simple zero_or_simple refl (vs ++ rest) (named_typing.begins.at vs rest c.1 k m))
  zero_typing_begins_at us rest c o (ws, vs, j, k, e, inr (x, f, i, v, n), m, l) =
      rw (e, f) (among is_zero zero_or_simple refl x i)

  zero_typing_begins : Begins (IsZero then Locally is_simple then Symbol is_colon then T.typing) (of zero_or_simple)
  zero_typing_begins = record { at = zero_typing_begins_at }

  partial_rest_some : Sample (At p)
      (Perhaps None (Making Some (Symbol is_next)) then IsZero then Locally is_simple then Symbol is_colon
      then T.typing)
  partial_rest_some = sample_then (sample_none None (Making Some (Symbol is_next)))
      (sample_then zero_some named_typing_some)

  pub partial_reads : Reads (At p) (Partial pass T L) (of is_partial) (of goes) (partial_at pass Q R)
  unfolding partial_at
  partial_reads =
      let gap = maybe None (of is_next) (make Some (symbol is_next)) (among_self (of is_next))
      (nothing_among (of is_next)) in
      let behind = then_exact gap zero_typing (sample_then zero_some named_typing_some)
      (leads_begins zero_typing_begins (apart is_next zero_or_simple refl)) in
      make partial_of (seq (symbol is_partial) behind partial_rest_some)

  partial_starts : (x : Lexeme) → of is_partial x ≡ true → Started (Partial pass T L) (x ∷ [])
  unfolding sample_making sample_then sample_token
  partial_starts x e = let s =
      sample_making partial_of (sample_then (sample_token (of is_partial) place x e) partial_rest_some) in
      record { more = partial_rest_some.tokens; value = s.value; fault = s.fault; means = s.means }

  pub erased_reads : Reads (At p) (Erased pass T L) (of is_zero) (of goes) (erased_at pass Q R)
  unfolding erased_at
  erased_reads = make erased_of (seq (symbol is_zero) named_typing.exact named_typing_some)

  erased_starts : (x : Lexeme) → of is_zero x ≡ true → Started (Erased pass T L) (x ∷ [])
  unfolding sample_making sample_then sample_token
  erased_starts x e = let s =
      sample_making erased_of (sample_then (sample_token (of is_zero) place x e) named_typing_some) in
      record { more = named_typing_some.tokens; value = s.value; fault = s.fault; means = s.means }

  signing_reads : (n : Local) → Reads (At p) (Signing pass T L n) (of is_colon) (of goes) (signing_at pass Q R n)
  unfolding signing_at
  signing_reads n = make (signature_of n) typing_behind

  -- ---- clauses

  abbrev Patterns : Says (List Shape)
  Patterns = Counted pass quantity.Parts 0 T.pattern

  pattern_reads : (n : ℕ) →
      Reads (At p) (Up_to pass quantity.Parts n T.pattern) (of starts_pattern) nothing
      (up_to_at pass quantity.Parts Q.starts_pattern Q.bad_pattern Q.pattern n)
  pattern_reads n = starting (of starts_pattern) top.pattern_among
      (up_to pass quantity.Parts Q.bad_pattern n top.pattern top.pattern_starts)

  patterns_exact : Exact (At p) Patterns (of starts_pattern) (clause_patterns_at pass Q R 0)
  unfolding clause_patterns_at
  patterns_exact = counted (λ n _. suc n) (λ n. Up_to pass quantity.Parts n T.pattern)
      (of starts_pattern) pattern_reads (λ x e. refl) (among_self (of starts_pattern))
      (nothing_among (of starts_pattern)) 0

  side_reads : Reads (At p) (Symbol is_equals then T.expr true) (of is_equals) (of goes)
      (then_at (symbol_at is_equals) (Q.expr true))
  side_reads = seq (symbol is_equals) (top.expr true).exact (top.expr_some true)

  side_some : Sample (At p) (Symbol is_equals then T.expr true)
  side_some = sample_then (symbol_some is_equals class.Equals refl) (top.expr_some true)

  equation_begins : (n : Local) → Begins (Equation pass T L n) (of starts_equation)
  equation_begins n = begins_making (clause_of n) _ (of starts_equation)
      (begins_run_then (λ _. true) (λ _. true) (λ n _. suc n) (λ n. Up_to pass quantity.Parts n T.pattern)
      (Symbol is_equals then T.expr true) 0 (of starts_equation)
      (λ k. begins_wider (Up_to pass quantity.Parts k T.pattern) (of starts_pattern) (of starts_equation)
      (among starts_pattern starts_equation refl) (pattern_reads k).begins)
      (begins_wider (Symbol is_equals then T.expr true) (of is_equals) (of starts_equation)
      (among is_equals starts_equation refl) side_reads.begins))

  equation_reads : (n : Local) →
      Reads (At p) (Equation pass T L n) (of starts_equation) (of goes) (equation_at pass Q R n)
  unfolding equation_at
  equation_reads n = record {
    exact = making_exact (clause_of n)
        (then_exact patterns_exact side_reads.exact side_some
        (leads_begins side_reads.begins (apart starts_pattern is_equals refl)));
    begins = equation_begins n;
  }

  -- each of the tokens begins an equation
  equals_starts : (n : Local) (x : Lexeme) → of is_equals x ≡ true → Started (Equation pass T L n) (x ∷ [])
  unfolding sample_making sample_then sample_token sample_run
  equals_starts n x e =
      let s = sample_making (clause_of n)
      (sample_then (sample_run (λ n _. suc n) (λ n. Up_to pass quantity.Parts n T.pattern) 0)
      (sample_then (sample_token (of is_equals) place x e) (top.expr_some true))) in
      record { more = (top.expr_some true).tokens; value = s.value; fault = s.fault; means = s.means }

  pattern_equation : (n : Local) (x : Lexeme) → Started T.pattern (x ∷ []) → Started (Equation pass T L n) (x ∷ [])
  pattern_equation n x s =
      let q = side_some in
      let one : Patterns (x ∷ s.more) (s.value ∷ []) (first s.fault None) = (
        x ∷ s.more,
        [],
        s.fault,
        None,
        sym (append-nil (x ∷ s.more)),
        refl,
        none_before pass T.pattern (x ∷ s.more) s.value s.fault s.means,
        (refl, refl, refl),
        refl,
      ) in
      record {
        more = s.more ++ q.tokens;
        value = clause_of n (s.value ∷ [], q.value);
        fault = first (first s.fault None) q.fault;
        means = (
          (s.value ∷ [], q.value),
          (x ∷ s.more, q.tokens, first s.fault None, q.fault, refl, one, q.means, refl),
          refl,
        );
      }

  equation_started : (n : Local) (x : Lexeme) (c : Class) → x.class ≡ c → starts_equation c ≡ true →
      Started (Equation pass T L n) (x ∷ [])
  equation_started n x class.Equals e h = equals_starts n x (ap is_equals e)
  equation_started n x class.Small e h = pattern_equation n x (top.pattern_starts x (whole x (ap starts_pattern e)))
  equation_started n x class.Big e h = pattern_equation n x (top.pattern_starts x (whole x (ap starts_pattern e)))
  equation_started n x class.BigPath e h = pattern_equation n x (top.pattern_starts x (whole x (ap starts_pattern e)))
  equation_started n x class.Wildcard e h = pattern_equation n x (top.pattern_starts x (whole x (ap starts_pattern e)))
  equation_started n x class.LeftParen e h = pattern_equation n x (top.pattern_starts x (whole x (ap starts_pattern e)))
  equation_started n x class.DotParen e h = pattern_equation n x (top.pattern_starts x (whole x (ap starts_pattern e)))
  equation_started n x _ e h = absurd cc

  clause_case : (n : Local) (b : Bool) →
      Reads (At p) (cond b (Above (λ _. one_above quantity.Clauses n.span) (Equation pass T L n))
      (Equation pass T L n)) (of starts_equation) (of goes)
      (cond b (cap_at (of starts_equation) (λ _. unexpected) (λ _. one_above quantity.Clauses n.span))
      (equation_at pass Q R n))
  clause_case n true = capped (λ _. one_above quantity.Clauses n.span) (of starts_equation) (λ _. unexpected)
      (of goes) (equation_begins n) (λ x h. equation_started n x x.class refl h)
  clause_case n false = equation_reads n

  clause_reads : (at : Place) (n : Local) →
      Reads (At p) (Clause pass T L at n) (of starts_equation) (of goes) (clause_at pass Q R at n)
  unfolding clause_at
  clause_reads at n = clause_case n (is_full pass quantity.Clauses (clauses_before at n.name))

  signing_some : (at : Place) (n : Local) → Sample (At p) (Signing pass T L n or Clause pass T L at n)
  signing_some at n = let s =
      typing_some in record {
        tokens = s.tokens;
        value = signature_of n s.value;
        fault = s.fault;
        means = inl (s.value, s.means, refl);
        mild = s.mild;
      }

  pub defining_reads : (at : Place) →
      Reads (At p) (Defining pass T L at) (of is_simple) (of goes) (defining_at pass Q R at)
  unfolding defining_at
  defining_reads at = make second
      (bind (locally is_simple)
      (λ n. (alt (of goes) (signing_reads n) (clause_reads at n) (apart is_colon starts_equation refl)
      (among_self (of goes)) (among_self (of goes))).exact) (λ us n o m. signing_some at n) (λ n. leads_nothing))

  defining_starts : (at : Place) (x : Lexeme) → of is_simple x ≡ true → Started (Defining pass T L at) (x ∷ [])
  defining_starts at x e = let s =
      signing_some at (local_of x) in
      record {
        more = s.tokens;
        value = s.value;
        fault = s.fault;
        means = (
          (local_of x, s.value),
          (x ∷ [], s.tokens, None, s.fault, refl, (x, refl, e, refl, refl), s.means, refl),
          refl,
        );
      }

  -- ---- items

  abbrev zero_or_name : Class → Bool
  zero_or_name class.Zero = true
  zero_or_name c = is_simple c

  abbrev partial_or_other : Class → Bool
  partial_or_other class.Partial = true
  partial_or_other c = zero_or_name c

  item_reads : (at : Place) → Reads (At p) (IsItem pass T L at) (of starts_item) (of goes) (item_at pass Q R at)
  unfolding item_at
  item_reads at =
      let third = starting (of zero_or_name)
      (among_either (of is_zero) (of is_simple) (of zero_or_name) (among is_zero zero_or_name refl)
      (among is_simple zero_or_name refl))
      (alt (of goes) erased_reads (defining_reads at) (apart is_zero is_simple refl) (among_self (of goes))
      (among_self (of goes))) in
      let second = starting (of partial_or_other)
      (among_either (of is_partial) (of zero_or_name) (of partial_or_other)
      (among is_partial partial_or_other refl) (among zero_or_name partial_or_other refl))
      (alt (of goes) partial_reads third (apart is_partial zero_or_name refl) (among_self (of goes))
      (among_self (of goes))) in
      starting (of starts_item)
      (among_either (of is_data) (of partial_or_other) (of starts_item) (among is_data starts_item refl)
      (among partial_or_other starts_item refl))
      (alt (of goes) family_reads second (apart is_data partial_or_other refl) (nothing_among (of goes))
      (among_self (of goes)))

  item_started : (at : Place) (x : Lexeme) (c : Class) → x.class ≡ c → starts_item c ≡ true →
      Started (IsItem pass T L at) (x ∷ [])
  item_started at x class.Data e h = let s =
      family_starts x (ap is_data e) in
      record { more = s.more; value = s.value; fault = s.fault; means = inl s.means }
  item_started at x class.Partial e h = let s =
      partial_starts x (ap is_partial e) in
      record { more = s.more; value = s.value; fault = s.fault; means = inr (inl s.means) }
  item_started at x class.Zero e h = let s =
      erased_starts x (ap is_zero e) in
      record { more = s.more; value = s.value; fault = s.fault; means = inr (inr (inl s.means)) }
  item_started at x class.Small e h = let s =
      defining_starts at x (ap is_simple e) in
      record { more = s.more; value = s.value; fault = s.fault; means = inr (inr (inr s.means)) }
  item_started at x class.Big e h = let s =
      defining_starts at x (ap is_simple e) in
      record { more = s.more; value = s.value; fault = s.fault; means = inr (inr (inr s.means)) }
  item_started at x _ e h = absurd cc

  item_some : (at : Place) → Headed p (IsItem pass T L at)
  item_some at =
      let s = named_typing_some in
      let x = sign class.Zero p in
      record {
        sample = record {
          tokens = x ∷ s.tokens;
          value = erased_of (p, s.value);
          fault = s.fault;
          means =
              inr (inr (inl (
                (p, s.value),
                (x ∷ [], s.tokens, None, s.fault, refl, (x, refl, refl, refl, refl), s.means, refl),
                refl,
              )));
          mild = s.mild;
        };
        head = x;
        rest = s.tokens;
        tokens = refl;
        place = refl;
      }

  -- ---- modules

  import_reads : (at : Place) → Reads (At p) (IsImport pass T L at) (of is_import) nothing (import_at pass Q R at)
  unfolding import_at
  import_reads at = make import_of
      (seq (starting (of is_import) (λ x e. (opens_both at.at_imports (of is_import x) e).1)
      (tok (opens at.at_imports (of is_import)) place)) (locally is_name).exact
      (locally_some is_name class.Small refl))

  entry_reads : (at : Place) → Reads (At p) (IsEntry pass T L at) (of is_next) (of goes) (entry_at pass Q R at)
  unfolding entry_at
  entry_reads at =
      let item = up_to pass quantity.Items (λ _. unexpected) at.items (item_reads at)
      (λ x h. item_started at x x.class refl h) in
      let s = up_to_some pass quantity.Items at.items (item_some at) in
      let some : Sample (At p) (IsImport pass T L at or Making listed
      (Up_to pass quantity.Items at.items (IsItem pass T L at))) = record {
        tokens = s.tokens;
        value =
            listed s.value;
        fault = s.fault;
        means = inr (s.value, s.means, refl);
        mild = s.mild;
      } in
      make second (seq (symbol is_next)
      (alt (of goes) (import_reads at) (make listed item) (apart is_import starts_item refl)
      (nothing_among (of goes)) (among_self (of goes))).exact some)

  entries_exact : (at : Place) →
      Exact (At p) (Run (λ _. true) (λ _. true) next_place (IsEntry pass T L) at) (of next_or_goes)
      (entries_at pass Q R at)
  unfolding entries_at
  entries_exact at = counted next_place (IsEntry pass T L) (of next_or_goes) entry_reads (apart goes is_next refl)
      (among is_next next_or_goes refl) (among goes next_or_goes refl) at

  pub module_reads : Reads (At p) (IsModule pass T L) (of is_open) nothing (module_at pass Q R)
  unfolding module_at
  module_reads =
      let close_some = symbol_some is_close class.Close refl in
      let entries = then_exact (entries_exact start) (symbol is_close).exact close_some
      (leads_begins (symbol {p = p} is_close).begins (apart next_or_goes is_close refl)) in
      let entries_some = sample_then (sample_run next_place (IsEntry pass T L) start) close_some in
      let named = seq (locally is_name) entries entries_some in
      let named_some = sample_then (locally_some is_name class.Small refl) entries_some in
      let header = seq (symbol is_module) named.exact named_some in
      make module_of (seq (symbol is_open) header.exact
      (sample_then (symbol_some is_module class.Module refl) named_some))

  pub module_some : Sample (At p) (IsModule pass T L)
  module_some = sample_making module_of
      (sample_then (symbol_some is_open class.Open refl)
      (sample_then (symbol_some is_module class.Module refl)
      (sample_then (locally_some is_name class.Small refl)
      (sample_then (sample_run next_place (IsEntry pass T L) start) (symbol_some is_close class.Close refl)))))

-- ---- a text

pub levels_whole : (pass : Pass) (d : ℕ) (x : Lexeme) → of starts_pattern x ≡ true →
    (levels_at pass (suc d)).starts_pattern x ≡ true
unfolding levels_at
levels_whole pass d x e = among starts_pattern (pattern_starts true) refl x e

pub text_exact : (p : Span) (pass : Pass) → Exact (At p) (IsText pass) nothing (text_at pass)
unfolding IsText text_at
text_exact p pass = (module_reads pass (levels pass 200) (levels pass 199) (levels_at pass 200)
    (levels_at pass 199) (levels_inner p pass 200) (levels_inner p pass 199) (levels_whole pass 199)).exact

pub text_some : (p : Span) (pass : Pass) → Sample (At p) (IsText pass)
unfolding IsText
text_some p pass = module_some pass (levels pass 200) (levels pass 199) (levels_at pass 200) (levels_at pass 199)
    (levels_inner p pass 200) (levels_inner p pass 199) (levels_whole pass 199)
