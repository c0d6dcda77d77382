-- Applications, whose arguments are read in two steps.
use Rattle.std.proofs.Common.{◌≡◌, ◌∙◌, ℕ, List, [], ◌∷◌, ◌++◌, ap, sym, refl, Option, None}
use Rattle.qtt_base.specs.declared.place.Span.{Span}
use Rattle.qtt_syntax.specs.declared.expr.Named.{Named}
use Rattle.qtt_syntax.specs.Tree.{Tree, Argument}
use Rattle.qtt_syntax.specs.Tree.Tree.{name}
use Rattle.qtt_phrase.specs.Reading.{token_at, many_at, making_at}
use Rattle.qtt_phrase.specs.Reading.Read.{got}
use Rattle.qtt_grammar.specs.declared.class.Pass.{Pass}
use Rattle.qtt_grammar.specs.declared.lexeme.Lexeme.{Lexeme}
use Rattle.qtt_grammar.specs.declared.stop.Stop.{Stop}
use Rattle.qtt_grammar.specs.declared.stop.Stop.TheVariants as stop
use Rattle.qtt_grammar.specs.Classes.{is_name, is_left_brace, starts_atom}
use Rattle.qtt_grammar.specs.Grammar.{of, named_of, written_of, app_of, arrow_of}
use Rattle.qtt_grammar.specs.Readers.{Reads, brace_at, atom_at, other_atom_at, atoms_at, named_app_at, other_app_at, app_at, codomain_at, arrow_at}
use Rattle.qtt_grammar.specs.View.{Fails, inside, with_front, first_place_at}
use Rattle.qtt_grammar.proofs.Loops.{behind, behind_stops}

module _ (pass : Pass) (n : ℕ) where
  abbrev name_read : Reads Named
  name_read = token_at (λ _. None) (of is_name) named_of

  abbrev braces_read : Reads (List Argument)
  braces_read = many_at (of is_left_brace) (inside brace_at pass n)

  abbrev atoms_read : Reads (List Argument)
  atoms_read = many_at (of starts_atom) (making_at written_of (inside atom_at pass n))

  module _ (ls : List Lexeme) (m : Named) (r : List Lexeme) (bs : List Argument) (s : List Lexeme) where
    stops_named : (e : Stop) → name_read ls ≡ got m r → braces_read r ≡ got bs s → Fails e (atoms_read s) →
        Fails e (inside named_app_at pass n ls)
    unfolding named_app_at atoms_at
    stops_named stop.Memory h k w = tt
    stops_named (stop.Bad x rest) h k w = rw (h, k, w) refl
    stops_named (stop.Over x rest) h k w = rw (h, k, w) refl

    pub named_stops : (e : Stop) → name_read ls ≡ got m r → braces_read r ≡ got bs s →
        Fails e (with_front bs (atoms_read s)) → Fails e (inside named_app_at pass n ls)
    named_stops e h k w = stops_named e h k (behind_stops bs (atoms_read s) e w)

    reads_named : (xs : List Argument) (t : List Lexeme) → name_read ls ≡ got m r → braces_read r ≡ got bs s →
        atoms_read s ≡ got xs t → inside named_app_at pass n ls ≡ got (app_of m.span (name m) (bs ++ xs)) t
    unfolding named_app_at atoms_at
    reads_named xs t h k w = rw (h, k, w) refl

    pub named_got : (all : List Argument) (t : List Lexeme) (u : Tree) → name_read ls ≡ got m r →
        braces_read r ≡ got bs s → with_front bs (atoms_read s) ≡ got all t → u ≡ app_of m.span (name m) all →
        inside named_app_at pass n ls ≡ got u t
    named_got all t u h k w e =
        let b = behind bs all t (atoms_read s) w in
        reads_named b.more t h k b.read ∙ ap (λ (x : List Argument). got (app_of m.span (name m) x) t) b.joins ∙
        ap (λ (x : Tree). got x t) (sym e)

  module _ (p : Span) (f : Tree) (r : List Lexeme) where
    stops_other : (ls : List Lexeme) (e : Stop) → first_place_at ls ≡ got p ls →
        inside other_atom_at pass n ls ≡ got f r → Fails e (atoms_read r) →
        Fails e (inside other_app_at pass n ls)
    unfolding other_app_at atoms_at
    stops_other ls stop.Memory h k w = tt
    stops_other [] e h k w = absurd (let x = h in cc)
    stops_other (x ∷ ls) (stop.Bad y rest) h k w = rw (k, w) refl
    stops_other (x ∷ ls) (stop.Over y rest) h k w = rw (k, w) refl

    pub other_stops : (ls : List Lexeme) (none : List Argument) (e : Stop) → first_place_at ls ≡ got p ls →
        inside other_atom_at pass n ls ≡ got f r → Fails e (with_front none (atoms_read r)) →
        Fails e (inside other_app_at pass n ls)
    other_stops ls none e h k w = stops_other ls e h k (behind_stops none (atoms_read r) e w)

    reads_other : (ls : List Lexeme) (xs : List Argument) (t : List Lexeme) → first_place_at ls ≡ got p ls →
        inside other_atom_at pass n ls ≡ got f r → atoms_read r ≡ got xs t →
        inside other_app_at pass n ls ≡ got (app_of p f xs) t
    unfolding other_app_at atoms_at
    reads_other [] xs t h k w = absurd (let x = h in cc)
    reads_other (x ∷ ls) xs t h k w = let e : x.place ≡ p = (let y = h in cc) in rw (k, w, e) refl

    pub other_got : (ls : List Lexeme) (none all : List Argument) (t : List Lexeme) (u : Tree) → none ≡ [] →
        first_place_at ls ≡ got p ls → inside other_atom_at pass n ls ≡ got f r →
        with_front none (atoms_read r) ≡ got all t → u ≡ app_of p f all → inside other_app_at pass n ls ≡ got u t
    other_got ls none all t u i h k w e =
        let b = behind [] all t (atoms_read r) (rw i at w) in
        reads_other ls b.more t h k b.read ∙ ap (λ (x : List Argument). got (app_of p f x) t) b.joins ∙
        ap (λ (x : Tree). got x t) (sym e)

    pub arrow_got : (ls : List Lexeme) (o : Option Tree) (t : List Lexeme) (u : Tree) →
        first_place_at ls ≡ got p ls → inside app_at pass n ls ≡ got f r → inside codomain_at pass n r ≡ got o t →
        u ≡ arrow_of ((p, f), o) → inside arrow_at pass n ls ≡ got u t
    unfolding arrow_at
    arrow_got [] o t u h k w e = absurd (let x = h in cc)
    arrow_got (x ∷ ls) o t u h k w e = let i : x.place ≡ p =
        (let y = h in cc) in rw (k, w)
        (ap (λ (q : Span). got (arrow_of ((q, f), o)) t) i ∙ ap (λ (z : Tree). got z t) (sym e))
