-- What the readers of chains keep.
use Rattle.std.proofs.Common.{ℕ, zero, suc, Bool, true, false, cond, not, List, [], ◌∷◌, Option, Some, None}
use Rattle.qtt_base.specs.declared.place.Span.{Span}
use Rattle.qtt_base.specs.declared.limits.Quantity.TheVariants as quantity
use Rattle.qtt_usage.specs.declared.mult.Mult.{Mult}
use Rattle.qtt_syntax.specs.Tree.{Tree}
use Rattle.qtt_syntax.specs.Tree.Tree.{name, number, text, universe, hole, the, apply, pi, lambda, letting, doing}
use Rattle.qtt_phrase.specs.Phrase.{opens}
use Rattle.qtt_phrase.specs.Reading.{begins}
use Rattle.qtt_phrase.specs.Reading.Kind.{too_deep}
use Rattle.qtt_grammar.specs.declared.class.Pass.TheVariants.{Counts, Free}
use Rattle.qtt_grammar.specs.declared.lexeme.Lexeme.{Lexeme}
use Rattle.qtt_grammar.specs.declared.stop.Excess.{Excess}
use Rattle.qtt_grammar.specs.Chain.{chain_excess}
use Rattle.qtt_grammar.specs.ChainReaders.{Pending, ChainReader, unchained_at, behind_type, extra_binder_at, codomain_chain_at, pi_chain_at, codomain_at_place, arrow_chain_at, binder_chain_at, expr_chain_at, implicit_chain_at, typing_chain_at, chain_level_at, simple_chain, chains_at, ends_con, settled_at, ignored, con_chain_at, cons_chain_at, family_chain_at, item_chain_at, entry_chain_at, module_chain_at, text_chain_at}
use Rattle.qtt_grammar.specs.Classes.{is_open, is_next, is_close, is_module, is_import, is_data, is_where, is_do, is_let, is_partial, is_zero, is_hole, is_arrow, is_colon, is_backslash, is_left_brace, is_right_brace, is_name, is_simple, is_big}
use Rattle.qtt_grammar.specs.Grammar.{of, place, mult_of, start, second}
use Rattle.qtt_grammar.specs.Limits.{is_full, one_above}
use Rattle.qtt_grammar.specs.Readers.{Reads, LevelReader, begins_binder, simple_reader, levels_at}
use Rattle.qtt_reading_laws.specs.Standing.{Each, Stands}
use Rattle.qtt_reading_laws.proofs.Keeping.{Fair, Placed_fault, Kept, Keeps, weighed, token, symbol, a_local, opener, chain, ◌andthen◌, making, either, perhaps, all, counted, placed, cap}
use Rattle.qtt_reading_laws.proofs.Levels.{Any, Level_keeps, typed, lambda as a_lambda, letting as a_letting, doing as a_doing, app, a_hole, simple, levels}
use Rattle.qtt_reading_laws.proofs.Items.{params, a_partial, an_erased, defining}

module _ (P : Span → Type 0) where
  either_of : {A : Type 0} {R : A → Type 0} {p q : Reads A} (b : Bool) → Keeps P p p R → Keeps P q q R →
      Keeps P (cond b p q) (cond b p q) R
  either_of true d e = d
  either_of false d e = e

  -- a binder that is one too many stands where the tree's binders do
  chain_case : (b : Bool) (e : Excess) (o : Option Excess) → P e.place → Placed_fault P o →
      Placed_fault P (cond b (Some e) o)
  chain_case true e o h k = h
  chain_case false e o h k = k

  chain_placed : (n : ℕ) (t : Tree) → Stands P t → Placed_fault P (chain_excess n t)
  chain_placed n (pi k m x a b s) h =
      chain_case (is_full Counts quantity.Parts n) (one_above quantity.Parts s) (chain_excess (suc n) b) h.2
      (chain_placed (suc n) b h.1)
  chain_placed n (name m) h = tt
  chain_placed n (number z s) h = tt
  chain_placed n (text v s) h = tt
  chain_placed n (universe l ls s) h = tt
  chain_placed n (hole m s) h = tt
  chain_placed n (the t e s) h = tt
  chain_placed n (apply f args s) h = tt
  chain_placed n (lambda bs t s) h = tt
  chain_placed n (letting m x t e b s) h = tt
  chain_placed n (doing ss s) h = tt

  abbrev Pending_stands : Pending → Type 0
  Pending_stands o = Placed_fault P o

  unchained : {A : Type 0} {R : A → Type 0} {p : Reads A} → Keeps P p p R →
      Keeps P (unchained_at p) (unchained_at p) Pending_stands
  unchained d = making P (λ _. None) (λ a r. tt) d

  extra_case : (may : Bool) (ls : List Lexeme) → Each (Fair P) ls →
      Kept P Pending_stands (extra_binder_at may ls) (extra_binder_at may ls)
  extra_case may [] fair = tt
  extra_case true (x ∷ ls) fair = fair.0.0
  extra_case false (x ∷ ls) fair = fair

  extra_binder : (may : Bool) → Keeps P (extra_binder_at may) (extra_binder_at may) Pending_stands
  extra_binder may = record { at = λ ls fair. extra_case may ls fair }

  pub record Chain_keeps (K : ChainReader) : Type 0 where
    pub expr : (n : ℕ) → Keeps P (K.expr n) (K.expr n) Pending_stands
    pub typing : (n : ℕ) → Keeps P (K.typing n) (K.typing n) Pending_stands

  module _ (may : Bool) (L : LevelReader) (l : Level_keeps P L L) (K : ChainReader) (k : Chain_keeps K) where
    codomain_chain : (n : ℕ) → Keeps P (codomain_chain_at may L K n) (codomain_chain_at may L K n) Pending_stands
    codomain_chain n = making P second (λ c r. r.1) (◌andthen◌ P (opener P may is_arrow) (k.expr (suc n)))

    pi_chain : (n : ℕ) → Keeps P (pi_chain_at may L K n) (pi_chain_at may L K n) Pending_stands
    unfolding pi_chain_at
    pi_chain n = making P second (λ c r. r.1) (◌andthen◌ P (typed P Free may L L l) (codomain_chain n))

    codomain_placed : (n : ℕ) (s : Span) → P s →
        Keeps P (codomain_at_place may L K n s) (codomain_at_place may L K n s) Pending_stands
    unfolding codomain_at_place
    codomain_placed n s h = either_of (is_full Counts quantity.Parts n)
        (cap P (opens may (of is_arrow)) (λ _. too_deep) (λ _. one_above quantity.Parts s) (λ x f. h))
        (codomain_chain n)

    arrow_chain : (n : ℕ) → Keeps P (arrow_chain_at may L K n) (arrow_chain_at may L K n) Pending_stands
    unfolding arrow_chain_at
    arrow_chain n = making P second (λ c r. r.1)
        (chain P (placed P (app P Free may L L l))
        (λ c r. perhaps P (of is_arrow) (chain_excess n c.1) (chain_placed n c.1 r.1) (codomain_placed n c.0 r.0)))

    binder_chain : (n : ℕ) → Keeps P (binder_chain_at may L K n) (binder_chain_at may L K n) Pending_stands
    unfolding binder_chain_at
    binder_chain n = either P begins_binder
        (either_of (is_full Counts quantity.Parts n) (extra_binder may) (pi_chain n)) (arrow_chain n)

    expr_chain : (n : ℕ) → Keeps P (expr_chain_at may L K n) (expr_chain_at may L K n) Pending_stands
    unfolding expr_chain_at
    expr_chain n = either P (begins (of is_let)) (unchained (a_letting P Free may L L l false))
        (either P (begins (of is_hole)) (unchained (a_hole P Free may L L l false))
        (either P (begins (of is_backslash)) (unchained (a_lambda P Free may L L l false))
        (either P (begins (of is_do)) (unchained (a_doing P Free may L L l false)) (binder_chain n))))

    implicit_chain : (n : ℕ) → Keeps P (implicit_chain_at may L K n) (implicit_chain_at may L K n) Pending_stands
    unfolding implicit_chain_at
    implicit_chain n = either_of (is_full Counts quantity.Parts n)
        (cap P (opens may (of is_left_brace)) (λ _. too_deep) (λ x. one_above quantity.Parts x.place) (λ x f. f.0))
        (making P behind_type (λ c r. r.1.1.1.1.1.1.1)
        (◌andthen◌ P (opener P may is_left_brace)
        (◌andthen◌ P {R = Any {A = Mult}} (token P (of is_zero) (λ x. mult_of x.class) (λ x f. tt))
        (◌andthen◌ P (a_local P is_simple)
        (◌andthen◌ P (symbol P is_colon)
        (◌andthen◌ P (l.expr false)
        (◌andthen◌ P (symbol P is_right_brace)
        (◌andthen◌ P (opener P may is_arrow) (k.typing (suc n))))))))))

    typing_chain : (n : ℕ) → Keeps P (typing_chain_at may L K n) (typing_chain_at may L K n) Pending_stands
    unfolding typing_chain_at
    typing_chain n = either P (begins (of is_left_brace)) (implicit_chain n) (expr_chain n)

    chain_level : Chain_keeps (chain_level_at may L K)
    chain_level = record { expr = expr_chain; typing = typing_chain }

  simple_chains : Chain_keeps simple_chain
  simple_chains = record {
    expr = λ n. unchained ((simple P).expr false);
    typing = λ n. unchained (simple P).typing;
  }

  chains : (d : ℕ) → Chain_keeps (chains_at d)
  unfolding chains_at
  chains zero = chain_level false simple_reader (simple P) simple_chain simple_chains
  chains (suc d) = chain_level true (levels_at Free d) (levels P Free d) (chains_at d) (chains d)

  -- ---- items

  settled : {A : Type 0} (R : A → Type 0) (is : Lexeme → Bool) (value : Lexeme → A) (p : Reads Pending) →
      ((x : Lexeme) → Fair P x → R (value x)) → Keeps P p p Pending_stands →
      Keeps P (settled_at is value p) (settled_at is value p) R
  settled R is value p h d = making P second (λ c r. r.1)
      (chain P {S = R} d (λ o r. weighed P (λ _. o) (λ _. o) is value h (λ x f. r) (λ x e. e)))

  module _ (T L : LevelReader) (top : Level_keeps P T T) (inner : Level_keeps P L L) (K : ChainReader)
      (k : Chain_keeps K) where
    con_chain : Keeps P (con_chain_at T L K) (con_chain_at T L K) Any
    unfolding con_chain_at
    con_chain = making P second (λ c r. tt)
        (◌andthen◌ P (a_local P is_big)
        (making P {S = Any {A = Bool}} second (λ c r. tt)
        (◌andthen◌ P (symbol P is_colon)
        (settled (Any {A = Bool}) (of ends_con) (of is_close) (K.typing 0) (λ x f. tt) (k.typing 0)))))

    cons_chain : Keeps P (cons_chain_at T L K) (cons_chain_at T L K) Any
    unfolding cons_chain_at
    cons_chain = either P (begins (of is_close)) (making P ignored (λ a r. tt) (symbol P is_close))
        (making P ignored (λ a r. tt) (all P (λ b. b) not (λ _ b. b) (λ _. of is_big) (λ _. con_chain) false))

    family_chain : Keeps P (family_chain_at T L K) (family_chain_at T L K) Any
    unfolding family_chain_at
    family_chain = making P ignored (λ a r. tt)
        (◌andthen◌ P (symbol P is_data)
        (◌andthen◌ P (a_local P is_big)
        (◌andthen◌ P (params P Free T L T L top inner 0)
        (◌andthen◌ P (symbol P is_colon)
        (◌andthen◌ P (settled P (of is_where) place (K.expr 0) (λ x f. f.0) (k.expr 0))
        (◌andthen◌ P (symbol P is_open) cons_chain))))))

    item_chain : Keeps P (item_chain_at T L K) (item_chain_at T L K) Any
    unfolding item_chain_at
    item_chain = either P (begins (of is_data)) family_chain
        (either P (begins (of is_partial)) (making P ignored (λ a r. tt) (a_partial P Free T L T L top inner))
        (either P (begins (of is_zero)) (making P ignored (λ a r. tt) (an_erased P Free T L T L top inner))
        (making P ignored (λ a r. tt) (defining P Free T L T L top inner start))))

    entry_chain : (b : Bool) → Keeps P (entry_chain_at T L K b) (entry_chain_at T L K b) Any
    unfolding entry_chain_at
    entry_chain b = making P second (λ c r. tt)
        (◌andthen◌ P (symbol P is_next)
        (either P {R = Any {A = Bool}} (begins (of is_import))
        (making P {S = Any {A = Bool}} (λ _. b) (λ c r. tt)
        (◌andthen◌ P {R = P} (token P (opens b (of is_import)) place (λ x f. f.0)) (a_local P is_name)))
        (making P {S = Any {A = Bool}} (λ _. false) (λ c r. tt) item_chain)))

    module_chain : Keeps P (module_chain_at T L K) (module_chain_at T L K) Any
    unfolding module_chain_at
    module_chain = making P ignored (λ a r. tt)
        (◌andthen◌ P (symbol P is_open)
        (◌andthen◌ P (symbol P is_module)
        (◌andthen◌ P (a_local P is_name)
        (◌andthen◌ P (making P {S = Any {A = Unit {0}}} ignored (λ a r. tt)
        (counted P {R = Any {A = Bool}} (λ _ b. b) (of is_next) entry_chain true)) (symbol P is_close)))))

  pub a_chain : Keeps P text_chain_at text_chain_at Any
  unfolding text_chain_at
  a_chain = module_chain (levels_at Free 200) (levels_at Free 199) (levels P Free 200) (levels P Free 199)
      (chains_at 200) (chains 200)
