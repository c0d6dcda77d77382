-- How loading stands between two readings.
use Rattle.std.proofs.Common.{◌≡◌, ℕ, zero, suc, ◌+◌, ◌<◌, true, false, List, [], ◌∷◌, ◌++◌, map, length, Option, Some, None, Result, Ok, Err, refl, sym, ap, ◌∙◌, subst, append_assoc, arith}
use Rattle.std.specs.Prelude.{IfSome, IsTrue}
use Rattle.std.specs.List.{slice_get}
use Rattle.std.proofs.lemmas.List.{append-nil, length-map, map-append, length_push}
use Rattle.qtt_syntax.specs.declared.module.ModuleText.{ModuleText}
use Rattle.qtt_syntax.specs.Tree.{Module}
use Rattle.qtt_syntax.specs.View.{module_of}
use Rattle.qtt_graph.specs.Graph.{Name, is_among, all_differ, header_of, is_whole}
use Rattle.qtt_graph.specs.Modules.{graph_of}
use Rattle.qtt_diag.specs.Kept.{refusal as kept_of}
use Rattle.qtt_load.specs.Reading.{Reading, Texts, read_in}
use Rattle.qtt_load.specs.Loading.{Stop, too_many, module_name, module_imports, mentioned, with_first, read_then, load, loaded}
use Rattle.qtt_load.specs.Answer.{ReadsAs, Stops, Loads, IsRead, IsLoading}
use Rattle.qtt_load.specs.declared.errors.LoadError.{LoadError}
use Rattle.qtt_load.specs.declared.errors.LoadError.TheVariants as load_error
use Rattle.qtt_load.proofs.Builds.{builds}
use Rattle.qtt_load.proofs.Known.{mentioned-differ, differ-front}
use Rattle.qtt_load.proofs.Texts.{Gave, agreeing, read-named, reads-as-named}

-- these modules, and those behind them
abbrev behind : List Module → Result (List Module) Stop → Result (List Module) Stop
behind ms (Ok more) = Ok (ms ++ more)
behind ms (Err s) = Err s

-- These are known, of which these modules were read, in order, and the others wait; so many more may be read. Of
-- some texts the build is these modules and what is loaded from here on; where the vault tells its texts, it is of
-- these.
pub record Standing (told : Option Texts) (root : Name) (known : List Name) (ms : List Module) : Type 0 where
  pub waiting : List Name
  pub left : ℕ
  pub parts : known ≡ map module_name ms ++ waiting
  pub room : left + length ms ≡ 1000
  pub once : all_differ known ≡ true
  pub so_far : (read : Name → Reading Module) → Gave read ms →
      loaded read root ≡ behind ms (load root read left known waiting)
  pub texts : Texts
  pub held : IfSome told (λ f. f ≡ texts)
  pub gave : Gave (read_in texts) ms

-- ---- the front
behind-none : (r : Result (List Module) Stop) → r ≡ behind [] r
behind-none (Ok ms) = refl
behind-none (Err s) = refl

-- texts that are the vault's, where it tells them
told_or_none : Option Texts → Texts
told_or_none None = λ a. None
told_or_none (Some f) = f

held-so : (told : Option Texts) → IfSome told (λ f. f ≡ told_or_none told)
unfolding told_or_none
held-so None = tt
held-so (Some f) = refl

pub begins : (told : Option Texts) (root : Name) → Standing told root (root ∷ []) []
unfolding loaded
begins told root = record {
  waiting = root ∷ [];
  left = 1000;
  parts = refl;
  room = refl;
  once = refl;
  so_far = λ read g. behind-none (load root read 1000 (root ∷ []) (root ∷ []));
  texts = told_or_none told;
  held = held-so told;
  gave = tt;
}

-- ---- what is read next
first : List Name → Option Name
first [] = None
first (a ∷ more) = Some a

get-behind : (xs ys : List Name) → slice_get (xs ++ ys) (length xs) ≡ first ys
unfolding first
get-behind [] [] = refl
get-behind [] (y ∷ ys) = refl
get-behind (x ∷ xs) ys = get-behind xs ys

next-is : (known waiting : List Name) (ms : List Module) → known ≡ map module_name ms ++ waiting →
    slice_get known (length ms) ≡ first waiting
next-is known waiting ms parts =
    ap (λ ks. slice_get ks (length ms)) parts ∙
    ap (slice_get (map module_name ms ++ waiting)) (sym (length-map ms module_name)) ∙
    get-behind (map module_name ms) waiting

waits-none : (waiting : List Name) → None ≡ first waiting → waiting ≡ []
unfolding first
waits-none [] e = refl
waits-none (a ∷ more) e = absurd (cc e)

waits-some : (waiting : List Name) (a : Name) → Some a ≡ first waiting → (more : List Name) × (waiting ≡ a ∷ more)
unfolding first
waits-some [] a e = absurd (cc e)
waits-some (b ∷ more) a e = (more, ap (λ c. c ∷ more) (cc e))

-- ---- where nothing waits
load-none : (root : Name) (read : Name → Reading Module) (n : ℕ) (known : List Name) →
    load root read n known [] ≡ Ok []
load-none root read zero known = refl
load-none root read (suc n) known = refl

pub ends : (told : Option Texts) (root : Name) (known : List Name) (ms : List Module) → Standing told root known ms →
    slice_get known (length ms) ≡ None → Loads told root (Ok ms)
ends told root known ms s none =
    let waits = waits-none s.waiting (sym none ∙ next-is known s.waiting ms s.parts) in (
      s.texts,
      s.held,
      s.so_far (read_in s.texts) s.gave ∙
          ap (λ ws. behind ms (load root (read_in s.texts) s.left known ws)) waits ∙
          ap (behind ms) (load-none root (read_in s.texts) s.left known) ∙ ap Ok (append-nil ms),
    )

-- ---- where one waits
-- it stands behind those that were read, and so is not one of them
record Next (known : List Name) (ms : List Module) (waiting : List Name) (a : Name) : Type 0 where
  more : List Name
  waits : waiting ≡ a ∷ more
  parts : known ≡ map module_name ms ++ a ∷ more
  new : is_among (map module_name ms) a ≡ false

next : (known waiting : List Name) (ms : List Module) (a : Name) → known ≡ map module_name ms ++ waiting →
    all_differ known ≡ true → slice_get known (length ms) ≡ Some a → Next known ms waiting a
next known waiting ms a parts once some =
    let waits = waits-some waiting a (sym some ∙ next-is known waiting ms parts) in
    let split = parts ∙ ap (λ ws. map module_name ms ++ ws) waits.1 in
    record {
      more = waits.0;
      waits = waits.1;
      parts = split;
      new = differ-front a (map module_name ms) waits.0 (subst (λ ns. all_differ ns ≡ true) split once);
    }

no-room : (left n : ℕ) → left + n ≡ 1000 → n ≡ 1000 → left ≡ zero
no-room left n room full = omega arith

pub stops-full : (told : Option Texts) (root : Name) (known : List Name) (ms : List Module) (a : Name) →
    Standing told root known ms → slice_get known (length ms) ≡ Some a → length ms ≡ 1000 →
    Loads told root (Err (too_many root))
stops-full told root known ms a s some full =
    let n = next known s.waiting ms a s.parts s.once some in
    let read = read_in s.texts in (
      s.texts,
      s.held,
      s.so_far read s.gave ∙ ap (λ ws. behind ms (load root read s.left known ws)) n.waits ∙
          ap (λ k. behind ms (load root read k known (a ∷ n.more))) (no-room s.left (length ms) s.room full),
    )

one-left : (left n : ℕ) → left + n ≡ 1000 → n < 1000 → (k : ℕ) × (left ≡ suc k)
one-left zero n room some = absurd (omega arith)
one-left (suc k) n room some = (k, refl)

-- what is loaded where one more is read
abbrev from-next : Name → (Name → Reading Module) → ℕ → List Name → Name → List Name → Reading Module →
    Result (List Module) Stop
from-next root read k known a more r =
    read_then a r (λ m. load root read k (known ++ mentioned known (module_imports m))
    (more ++ mentioned known (module_imports m)))

-- the build is what was read, and what is loaded where the next one is read
pub record Onward (root : Name) (known : List Name) (ms : List Module) (a : Name) (more : List Name)
    (k : ℕ) : Type 0 where
  pub room : suc k + length ms ≡ 1000
  pub so_far : (read : Name → Reading Module) → Gave read ms → (r : Reading Module) → read a ≡ r →
      loaded read root ≡ behind ms (from-next root read k known a more r)

onward : (told : Option Texts) (root : Name) (known : List Name) (ms : List Module) (a : Name) (more : List Name)
    (k : ℕ) (s : Standing told root known ms) → s.waiting ≡ a ∷ more → s.left ≡ suc k →
    Onward root known ms a more k
onward told root known ms a more k s waits left = record {
  room = ap (λ n. n + length ms) (sym left) ∙ s.room;
  so_far = λ read g r is.
      s.so_far read g ∙ ap (λ ws. behind ms (load root read s.left known ws)) waits ∙
      ap (λ n. behind ms (load root read n known (a ∷ more))) left ∙
      ap (λ q. behind ms (from-next root read k known a more q)) is;
}

pub stops : (told : Option Texts) (root : Name) (known : List Name) (ms : List Module) (a : Name) (e : Stop) →
    Standing told root known ms → length ms < 1000 → slice_get known (length ms) ≡ Some a → Stops told a e →
    Loads told root (Err e)
stops told root known ms a e s few some (w, reads, is) =
    let n = next known s.waiting ms a s.parts s.once some in
    let k = one-left s.left (length ms) s.room few in
    let agree = agreeing told s.texts ms a (Err w) s.held s.gave n.new reads in
    let now = onward told root known ms a n.more k.0 s n.waits k.1 in (
      agree.texts,
      agree.held,
      now.so_far (read_in agree.texts) agree.gave (Err w) agree.reads ∙ ap Err is,
    )

-- ---- one more that was read
gave-front : (read : Name → Reading Module) (ms : List Module) (m : Module) → Gave read (ms ++ m ∷ []) →
    Gave read ms × (read (module_name m) ≡ Ok m)
gave-front read [] m g = (tt, g.0)
gave-front read (n ∷ ns) m g = let d = gave-front read ns m g.1 in ((g.0, d.0), d.1)

gave-behind : (read : Name → Reading Module) (ms : List Module) (m : Module) → Gave read ms →
    read (module_name m) ≡ Ok m → Gave read (ms ++ m ∷ [])
gave-behind read [] m g is = (is, tt)
gave-behind read (n ∷ ns) m g is = (g.0, gave-behind read ns m g.1 is)

behind-first : (ms : List Module) (m : Module) (r : Result (List Module) Stop) →
    behind ms (with_first m r) ≡ behind (ms ++ m ∷ []) r
behind-first ms m (Ok more) = ap Ok (sym (append_assoc ms (m ∷ []) more))
behind-first ms m (Err s) = refl

one-fewer : (k n m : ℕ) → suc k + n ≡ 1000 → m ≡ n + 1 → k + m ≡ 1000
one-fewer k n m room is = omega arith

moved : (known new more : List Name) (ms : List Module) (a : Name) (m : Module) → module_name m ≡ a →
    known ≡ map module_name ms ++ a ∷ more →
    known ++ new ≡ map module_name (ms ++ m ∷ []) ++ (more ++ new)
moved known new more ms a m is parts =
    ap (λ ks. ks ++ new) parts ∙ append_assoc (map module_name ms) (a ∷ more) new ∙
    ap (λ (b : Name). map module_name ms ++ (b ∷ (more ++ new))) (sym is) ∙
    sym (append_assoc (map module_name ms) (module_name m ∷ []) (more ++ new)) ∙
    ap (λ ns. ns ++ (more ++ new)) (sym (map-append module_name ms (m ∷ [])))

pub goes-on : (told : Option Texts) (root : Name) (known : List Name) (ms : List Module) (a : Name) (m : Module) →
    Standing told root known ms → length ms < 1000 → slice_get known (length ms) ≡ Some a → ReadsAs told a (Ok m) →
    Standing told root (known ++ mentioned known (module_imports m)) (ms ++ m ∷ [])
goes-on told root known ms a m s few some reads =
    let n = next known s.waiting ms a s.parts s.once some in
    let k = one-left s.left (length ms) s.room few in
    let agree = agreeing told s.texts ms a (Ok m) s.held s.gave n.new reads in
    let now = onward told root known ms a n.more k.0 s n.waits k.1 in
    let named : module_name m ≡ a = read-named a reads.0 m reads.2 in
    let new = mentioned known (module_imports m) in
    record {
      waiting = n.more ++ new;
      left = k.0;
      parts = moved known new n.more ms a m named n.parts;
      room = one-fewer k.0 (length ms) (length (ms ++ m ∷ [])) now.room (length_push ms m);
      once = mentioned-differ known (module_imports m) s.once;
      so_far = λ read g.
          let d = gave-front read ms m g in
          let is : read a ≡ Ok m = subst (λ b. read b ≡ Ok m) named d.1 in
          now.so_far read d.0 (Ok m) is ∙
          behind-first ms m (load root read k.0 (known ++ new) (n.more ++ new));
      texts = agree.texts;
      held = agree.held;
      gave = gave-behind (read_in agree.texts) ms m agree.gave
          (subst (λ b. read_in agree.texts b ≡ Ok m) (sym named) agree.reads);
    }

-- ---- what code answers
pub read-stops : (told : Option Texts) (root : Name) (known : List Name) (ms : List Module) (a : Name)
    (e : LoadError) → Standing told root known ms → length ms < 1000 → slice_get known (length ms) ≡ Some a →
    IsRead told a (Err e) → IsLoading told root (Err e)
read-stops told root known ms a (load_error.Absent n) s few some read =
    stops told root known ms a (Stop.absent n) s few some read
read-stops told root known ms a (load_error.Refused r) s few some read =
    (stops told root known ms a (Stop.refused r.rule (kept_of r)) s few some read.0, read.1)
read-stops told root known ms a load_error.VaultFault s few some read = tt
read-stops told root known ms a load_error.Memory s few some read = tt

headers-of : (ts : List ModuleText) → map header_of (map module_of ts) ≡ graph_of ts
headers-of [] = refl
headers-of (t ∷ ts) = ap (λ hs. header_of (module_of t) ∷ hs) (headers-of ts)

pub is-whole : (told : Option Texts) (root : Name) (ts : List ModuleText) → Loads told root (Ok (map module_of ts)) →
    IsTrue (is_whole (graph_of ts))
is-whole told root ts (texts, held, is) =
    subst (λ g. IsTrue (is_whole g)) (headers-of ts)
    (builds (read_in texts) root (map module_of ts) (reads-as-named texts) is).whole
