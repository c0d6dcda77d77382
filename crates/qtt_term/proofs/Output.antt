-- The tapes of a run are those of its events.
use Rattle.std.proofs.Common.{◌≡◌, ℕ, zero, suc, Bool, true, false, cond, List, [], ◌∷◌, ◌++◌, length, Option, Some, None, refl, sym, ◌∙◌, ap, append_assoc}
use Rattle.qtt_base.specs.declared.place.GlobalId.{GlobalId}
use Rattle.qtt_term.specs.Term.{Io, Action, Term, ε, ◌▸◌, Act, Tape, TextLit}
use Rattle.qtt_term.specs.Signature.{Env}
use Rattle.qtt_term.specs.FullStep.{Outcome, full_step}
use Rattle.qtt_term.specs.FullRun.{Event, Config, Verdict, Turn, Run, at_open, tape_list, resume, read, use_tape, perform, take_turn, turn, closes_from, all_shut, at_end, stopped, going, run_on, start, full}
use Rattle.qtt_prims.specs.Lines.{is_line, line_of}
use Rattle.qtt_prims.specs.Tapes.{Taped, changed, with_line, shut}
use Rattle.qtt_term.proofs.Options.{none≢some, some-injective, chain-some, cond-some}

abbrev Told : Config → Type 0
Told c = tape_list [] c.events ≡ c.tapes

told-append : (ts : List Taped) (es ds : List Event) → tape_list ts (es ++ ds) ≡ tape_list (tape_list ts es) ds
told-append ts [] ds = refl
told-append ts (Event.line s ∷ es) ds = told-append ts es ds
told-append ts (Event.opened s ∷ es) ds = told-append _ es ds
told-append ts (Event.wrote h s ∷ es) ds = told-append _ es ds
told-append ts (Event.closed_tape h ∷ es) ds = told-append _ es ds

after-last : (ts : List Taped) (es : List Event) (e : Event) →
    tape_list ts (es ++ e ∷ []) ≡ tape_list (tape_list ts es) (e ∷ [])
after-last ts es e = told-append ts es (e ∷ [])

-- an open tape that is changed is the changed one of that number
open-changed : (h : ℕ) (g : Taped → Taped) (T U : List Taped) → at_open h g T ≡ Some U → changed h g T ≡ U
open-changed h g [] U e = absurd (none≢some e)
open-changed zero g (t ∷ T) U e = some-injective (cond-some t.is_open (Some (g t ∷ T)) U e).1
open-changed (suc h) g (t ∷ T) U e =
    let r = chain-some (at_open h g T) (λ us. Some (t ∷ us)) U e in ap (λ us. t ∷ us)
    (open-changed h g T r.0 r.1) ∙ some-injective r.2

-- ---- a turn
abbrev Tells : Turn → Type 0
Tells (Turn.goes d) = Told d
Tells (Turn.halts v) = Unit {0}

cond-tells : (b : Bool) (t k : Turn) → Tells t → Tells k → Tells (cond b t k)
cond-tells true t k g h = g
cond-tells false t k g h = h

resume-tells : (m : Io) (v : Term) (c : Config) (ks : List Term) → Told c → Tells (resume m v c ks)
resume-tells m v c [] d = tt
resume-tells m v c (k ∷ ks) d = d

read-tells : (c : Config) (bs : List ℕ) → Told c → Tells (read c bs)
read-tells c [] d = d
read-tells c (b ∷ bs) d = cond-tells (is_line (line_of (b ∷ bs))) _ _ d tt

tape-tells : (c : Config) (t : Term) (e : Event) (o : Option (List Taped)) →
    ((U : List Taped) → o ≡ Some U → tape_list [] (c.events ++ e ∷ []) ≡ U) → Tells (use_tape c t e o)
tape-tells c t e (Some U) h = h U refl
tape-tells c t e None h = tt

perform-tells : (c : Config) (t : Term) → Told c → Tells (perform c t)
perform-tells c (Act (Action.bind m n) k (A ▸ B ▸ t ▸ next ▸ ε)) d = d
perform-tells c (Act (Action.pure m) k (A ▸ v ▸ ε)) d = resume-tells m v c c.waiting d
perform-tells c (Act Action.put_line k (TextLit s ▸ ε)) d = after-last [] c.events (Event.line s) ∙ d
perform-tells c (Act Action.get_line k ε) d = read-tells c c.input d
perform-tells c (Act Action.opens k (TextLit s ▸ ε)) d =
    after-last [] c.events (Event.opened s) ∙ ap (λ T. tape_list T (Event.opened s ∷ [])) d
perform-tells c (Act Action.writes k (Tape h ▸ TextLit s ▸ ε)) d =
    tape-tells c _ (Event.wrote h s) (at_open h (with_line s) c.tapes)
    (λ U e. after-last [] c.events (Event.wrote h s) ∙ ap (λ T. tape_list T (Event.wrote h s ∷ [])) d ∙
    open-changed h (with_line s) c.tapes U e)
perform-tells c (Act Action.closes k (Tape h ▸ ε)) d =
    tape-tells c _ (Event.closed_tape h) (at_open h shut c.tapes)
    (λ U e. after-last [] c.events (Event.closed_tape h) ∙ ap (λ T. tape_list T (Event.closed_tape h ∷ [])) d ∙
    open-changed h shut c.tapes U e)
perform-tells c _ d = tt

turn-tells : (E : Env) (c : Config) → Told c → Tells (turn E c)
turn-tells E c d = go (full_step E c.term)
  where
    go : (o : Outcome) → Tells (take_turn c o)
    go Outcome.value = perform-tells c c.term d
    go (Outcome.step s) = d
    go (Outcome.trap k) = tt
    go Outcome.stuck = tt

-- ---- the closes after a trap
changed-behind : (g : Taped → Taped) (S T : List Taped) (t : Taped) → changed (length S) g (S ++ t ∷ T) ≡ S ++ g t ∷ T
changed-behind g [] T t = refl
changed-behind g (s ∷ S) T t = ap (λ us. s ∷ us) (changed-behind g S T t)

already-shut : (t : Taped) → t.is_open ≡ false → shut t ≡ t
already-shut t e = ap (λ b. record t { is_open = b }) (sym e)

pub next-length : {A : Type 0} (xs : List A) (x : A) → length (xs ++ x ∷ []) ≡ suc (length xs)
next-length [] x = refl
next-length (y ∷ xs) x = ap suc (next-length xs x)

-- one tape after those of S, and then those of T
one-more : (S T : List Taped) (u : Taped) →
    tape_list ((S ++ u ∷ []) ++ T) (closes_from (length (S ++ u ∷ [])) T) ≡ (S ++ u ∷ []) ++ all_shut T →
    tape_list (S ++ u ∷ T) (closes_from (suc (length S)) T) ≡ S ++ u ∷ all_shut T
one-more S T u h =
    ap (λ V. tape_list V (closes_from (suc (length S)) T)) (sym (append_assoc S (u ∷ []) T))
    ∙ ap (λ n. tape_list ((S ++ u ∷ []) ++ T) (closes_from n T)) (sym (next-length S u))
    ∙ h ∙ append_assoc S (u ∷ []) (all_shut T)

close-tells : (S T : List Taped) (t : Taped) (b : Bool) → t.is_open ≡ b →
    ((u : Taped) → tape_list ((S ++ u ∷ []) ++ T) (closes_from (length (S ++ u ∷ [])) T) ≡
    (S ++ u ∷ []) ++ all_shut T) →
    tape_list (S ++ t ∷ T) (cond b (Event.closed_tape (length S) ∷ closes_from (suc (length S)) T)
    (closes_from (suc (length S)) T)) ≡ S ++ shut t ∷ all_shut T
close-tells S T t true e h =
    ap (λ V. tape_list V (closes_from (suc (length S)) T)) (changed-behind shut S T t) ∙ one-more S T (shut t)
    (h (shut t))
close-tells S T t false e h = one-more S T t (h t) ∙ ap (λ u. S ++ u ∷ all_shut T) (sym (already-shut t e))

closes-tell : (T S : List Taped) → tape_list (S ++ T) (closes_from (length S) T) ≡ S ++ all_shut T
closes-tell [] S = refl
closes-tell (t ∷ T) S = close-tells S T t t.is_open refl (λ u. closes-tell T (S ++ u ∷ []))

end-tells : (v : Verdict) (c : Config) → Told c → Told (at_end v c)
end-tells (Verdict.trapped k) c d =
    told-append [] c.events (closes_from 0 c.tapes) ∙ ap (λ T. tape_list T (closes_from 0 c.tapes)) d ∙
    closes-tell c.tapes []
end-tells Verdict.ended c d = d
end-tells Verdict.stuck c d = d
end-tells Verdict.running c d = d

-- ---- whole runs
stopped-tells : (n : ℕ) (c : Config) (t : Turn) → Told c → Told (stopped n c t).last
stopped-tells n c (Turn.halts v) d = end-tells v c d
stopped-tells n c (Turn.goes x) d = d

going-tells : (n : ℕ) (c : Config) (t : Turn) (next : Config → Run) → Tells t → Told c →
    ((x : Config) → Told x → Told (next x).last) → Told (going n c t next).last
going-tells n c (Turn.halts v) next g d h = end-tells v c d
going-tells n c (Turn.goes x) next g d h = h x g

run-tells : (E : Env) (more n : ℕ) (c : Config) → Told c → Told (run_on more E n c).last
run-tells E zero n c d = stopped-tells n c (turn E c) d
run-tells E (suc more) n c d =
    going-tells n c (turn E c) (run_on more E (suc n)) (turn-tells E c d) d (λ x g. run-tells E more (suc n) x g)

pub full-tells : (E : Env) (n : ℕ) (main : GlobalId) (input : List ℕ) →
    tape_list [] (full n E main input).last.events ≡ (full n E main input).last.tapes
full-tells E n main input = run-tells E n 0 (start main input) refl
