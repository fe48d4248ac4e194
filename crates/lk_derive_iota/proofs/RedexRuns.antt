-- A recursor that is applied, in parts.
use Rattle.std.proofs.Common.{ℕ, zero, suc, ◌≡◌, ◌<◌, ◌≤◌, inl, List, [], ◌∷◌, length, map, take, drop, Some, None, refl, sym, subst, ap, ◌∙◌, arith}
use Rattle.std.specs.Prelude.{slice_get, slice_index_or, option_map}
use Rattle.std.proofs.lemmas.List.{take-map, drop-map, length-map}
use Rattle.std.proofs.lemmas.List.Elements.{All-take, All-drop}
use Rattle.std.proofs.lemmas.Option.{slice_get-map, slice_get_past}
use Rattle.lk_tree.specs.Tree.{Name, Level, Tree, const, app}
use Rattle.lk_tree.specs.Spine.{apply, head, args}
use Rattle.lk_tree.specs.WellFormed.{IsWellFormed, AllWellFormed}
use Rattle.lk_tree.proofs.Lists.{fine_take, length_before, split_at}
use Rattle.lk_tree.proofs.Spines.{fine_apply, well_formed_of_apply}
use Rattle.lk_tree.proofs.Within.{apply_head_args}
use Rattle.lk_rulebook.specs.Place.{Place, Entry, Recursor, a_rec}
use Rattle.lk_rulebook.specs.Structures.{RecApp, on_major, before_major, before_indices}
use Rattle.lk_rulebook.specs.Claims.{reduces}
use Rattle.lk_claims.proofs.Facts.{same_self}
use Rattle.lk_claims.proofs.Pieces.{Some_inj}
use Rattle.lk_questions.specs.Query.{core}
use Rattle.lk_questions.specs.Program.{Program}
use Rattle.lk_questions.specs.Core.{core_steps, core_applied}
use Rattle.lk_questions.specs.Iota.{core_constant, iota}
use Rattle.lk_store.specs.Contents.{Contents, name_at, list_at, tree_at}
use Rattle.lk_spine.specs.Reading.{AreTrees}
use Rattle.lk_env.specs.StoredLibrary.{StoredLibrary}
use Rattle.lk_ask.specs.Looks.{Basis}
use Rattle.lk_premises.specs.declared.heads.Headed.{Headed}
use Rattle.lk_step.specs.declared.step.Row.{Row}
use Rattle.lk_step.specs.Rows.{IsAnswered, IsClaim}
use Rattle.lk_step.specs.Runs.{Runs, IsOpened}
use Rattle.lk_step.specs.Parts.{IsWhole, IsEmpty, IsPartIn}
use Rattle.lk_step.proofs.Runs.{opened_so}
use Rattle.lk_step.proofs.PartsIn.{part_none, part_these, part_whole}
use Rattle.lk_derive_iota.specs.declared.redexes.Redex.{Redex}
use Rattle.lk_derive_iota.specs.declared.redexes.Shape.{Shape}
use Rattle.lk_derive_iota.specs.Redexes.{IsRedexOf, HasNoMajor, IsHeadedBy}
use Rattle.lk_derive_iota.specs.Stages.{starts, IsUnderWay}

-- fewer of the first ones
pub take_fewer : {A : Type 0} (m n : ℕ) (xs : List A) → m ≤ n → take m (take n xs) ≡ take m xs
take_fewer zero n xs h = refl
take_fewer (suc m) zero xs h = absurd (omega arith)
take_fewer (suc m) (suc n) [] h = refl
take_fewer (suc m) (suc n) (y ∷ ys) h = ap (λ r. y ∷ r) (take_fewer m n ys (omega arith))

pub fewer : (r : Recursor) → before_indices r ≤ before_major r
fewer r = omega arith

-- what stands for the arguments stands for parts of them
pub first_ones : (c : Contents) (es xs : List ℕ) (ts : List Tree) (n m : ℕ) → AreTrees c es ts → xs ≡ take n es → n ≡ m → AreTrees c xs (take m ts)
first_ones c es xs ts n m h i e =
    let there : AreTrees c (take n es) (take n ts) = record { known = All-take (λ x. x < length c.trees) n es h.known; are = sym (take-map (tree_at c) n es) ∙ ap (take n) h.are } in
    subst (λ k. AreTrees c xs (take k ts)) e (subst (λ z. AreTrees c z (take n ts)) (sym i) there)

pub last_ones : (c : Contents) (es xs : List ℕ) (ts : List Tree) (n m : ℕ) → AreTrees c es ts → xs ≡ drop n es → n ≡ m → AreTrees c xs (drop m ts)
last_ones c es xs ts n m h i e =
    let there : AreTrees c (drop n es) (drop n ts) = record { known = All-drop (λ x. x < length c.trees) n es h.known; are = sym (drop-map (tree_at c) n es) ∙ ap (drop n) h.are } in
    subst (λ k. AreTrees c xs (drop k ts)) e (subst (λ z. AreTrees c z (drop n ts)) (sym i) there)

get_at : (es : List ℕ) (n d : ℕ) → n < length es → slice_get es n ≡ Some (slice_index_or es n d)
get_at [] n d h = absurd (omega arith)
get_at (e ∷ es) zero d h = refl
get_at (e ∷ es) (suc n) d h = get_at es n d (omega arith)

pub one_at : (c : Contents) (es : List ℕ) (ts : List Tree) (n m d : ℕ) → AreTrees c es ts → n < length es → n ≡ m → slice_get ts m ≡ Some (tree_at c (slice_index_or es n d))
one_at c es ts n m d h within e =
    let there : slice_get (map (tree_at c) es) n ≡ Some (tree_at c (slice_index_or es n d)) = slice_get-map (tree_at c) es n ∙ ap (option_map (tree_at c)) (get_at es n d within) in
    subst (λ k. slice_get ts k ≡ Some (tree_at c (slice_index_or es n d))) e (subst (λ ys. slice_get ys n ≡ Some (tree_at c (slice_index_or es n d))) h.are there)

pub none_at : (c : Contents) (es : List ℕ) (ts : List Tree) (n : ℕ) → AreTrees c es ts → length es ≤ n → slice_get ts n ≡ None
none_at c es ts n h few =
    let many : length (map (tree_at c) es) ≤ n = rw (length-map es (tree_at c)) few in
    subst (λ ys. slice_get ys n ≡ None) h.are (slice_get_past (map (tree_at c) es) n many)

-- the recursor at its arguments before the major premise
abbrev pub rec_app : {B : Type 0} (b : Basis B) (c : Contents) (e : Tree) (h : Headed) (s : Shape) (k : IsHeadedBy b c e h s) (x : Tree) → slice_get (args e) (before_major k.recursor) ≡ Some x → IsWellFormed e → RecApp b.place
rec_app b c e h s k x at f =
    let C : Tree = const (name_at c h.name) (list_at c h.levels) in
    let n : ℕ = before_major k.recursor in
    let whole : apply C (args e) ≡ e = ap (λ z. apply z (args e)) (sym k.head_is) ∙ apply_head_args e in
    let fs : AllWellFormed (args e) = (well_formed_of_apply C (args e) (subst IsWellFormed (sym whole) f)).1 in
    record {
      name = name_at c h.name;
      levels = list_at c h.levels;
      front = take n (args e);
      entry = k.entry;
      recursor = k.recursor;
      given = k.means;
      kind = k.kind_is;
      front_is = length_before n x (args e) at;
      fine = fine_apply C (take n (args e)) tt (fine_take n (args e) fs);
    }

-- Core of e starts with it
applied_steps : (e : Tree) (c : Name) (ls : List Level) (x : Tree) (n : ℕ) → head e ≡ const c ls → slice_get (args e) n ≡ Some x → core_steps e ≡ core_applied e (const c ls) (args e)
unfolding head args
applied_steps (app f a) c ls x n h s = ap (λ z. core_applied (app f a) z (args (app f a))) h
applied_steps _ c ls x n h s = absurd cc

-- what it does then
rec_run : (w : Place) (e : Tree) (c : Name) (ls : List Level) (xs : List Tree) (g : Entry) (r : Recursor) (v : Tree) (n : ℕ) → w.means c ≡ Some g → g.kind ≡ a_rec r → Runs w (core_applied e (const c ls) xs) v n →
    Runs w (iota e g ls r (take (before_major r) xs) (slice_get xs (before_major r)) (drop (suc (before_major r)) xs)) v n
rec_run w e c ls xs g r v n m k h =
    let i : h.0 ≡ g = Some_inj (sym h.1 ∙ m) in
    let run : Runs w (core_constant e c ls xs g g.kind) v n = subst (λ z. Runs w (core_constant e c ls xs z z.kind) v n) i h.2 in
    subst (λ z. Runs w (core_constant e c ls xs g z) v n) k run

pub start : {w : Place} {l : StoredLibrary} {c : Contents} {r : Row} {most : ℕ} {u : Redex} {e : Tree} → IsRedexOf w c l u e → IsEmpty r → IsClaim w (core e) most → IsUnderWay w l c r most u (tree_at c u.major) starts 0
start {w = w} {l = l} {c = c} {r = r} {u = u} {e = e} h empty k =
    let R : RecApp w = h.R in
    let n : ℕ = before_major R.recursor in
    let o : IsOpened w (core e) k.answer k.cost = opened_so w (core e) k.answer k.cost k.answered in
    let paid : k.cost ≡ suc o.0 = o.1 in
    let run : Runs w (core_applied e (const R.name R.levels) (args e)) k.answer o.0 = subst (λ (p : Program Tree). Runs w p k.answer o.0) (applied_steps e R.name R.levels h.first n h.head_is h.first_is) o.2 in
    let go : Runs w (iota e R.entry R.levels R.recursor (take n (args e)) (slice_get (args e) n) (drop (suc n) (args e))) k.answer o.0 = rec_run w e R.name R.levels (args e) R.entry R.recursor k.answer o.0 R.given R.kind run in
    let one = subst (λ z. Runs w (iota e R.entry R.levels R.recursor z (slice_get (args e) n) (drop (suc n) (args e))) k.answer o.0) h.front_is go in
    let two = subst (λ z. Runs w (iota e R.entry R.levels R.recursor R.front z (drop (suc n) (args e))) k.answer o.0) h.first_is one in
    let three = subst (λ z. Runs w (iota e R.entry R.levels R.recursor R.front (Some h.first) z) k.answer o.0) h.rest_is two in
    let C : Tree = const R.name R.levels in
    let whole : apply C (args e) ≡ e = ap (λ z. apply z (args e)) (sym h.head_is) ∙ apply_head_args e in
    let parts : apply (app (apply C (take n (args e))) h.first) (drop (suc n) (args e)) ≡ e = split_at n C h.first (args e) h.first_is ∙ whole in
    let e_is : apply (on_major R h.first) h.rest ≡ e =
    ap (apply (on_major R h.first)) (sym h.rest_is) ∙ ap (λ z. apply (app (apply C z) h.first) (drop (suc n) (args e))) (sym h.front_is) ∙ parts in
    let ff : IsWellFormed h.first = (well_formed_of_apply (on_major R h.first) h.rest (subst IsWellFormed (sym e_is) k.askable)).0.1 in
    let a : Tree = on_major R h.first in
    let part : IsPartIn w c r (reduces a a ∷ []) 0 = part_these w c r [] (reduces a a ∷ []) 0 0 (inl (same_self a), tt) (omega arith) (part_none w c r empty) in
    record {
      R = R;
      e = e;
      first = h.first;
      rest = h.rest;
      redex = h.redex;
      e_is = e_is;
      value = k.answer;
      cost = k.cost;
      answered = k.answered;
      within = k.within;
      fine = k.askable;
      fine_at = subst IsWellFormed (sym h.redex.major_is.is) ff;
      spent = 0;
      second = o.0;
      paid = omega arith;
      part = subst (λ z. IsPartIn w c r (reduces a (on_major R z) ∷ []) 0) (sym h.redex.major_is.is) part;
      facts = tt;
      runs = three;
    }

-- without a major premise it is its own Core
itself : (w : Place) (e : Tree) (c : Name) (ls : List Level) (g : Entry) (r : Recursor) (v : Tree) (n : ℕ) → head e ≡ const c ls → w.means c ≡ Some g → g.kind ≡ a_rec r → slice_get (args e) (before_major r) ≡ None → Runs w (core_steps e) v n → v ≡ e
unfolding head args
itself w (app f a) c ls g r v n h m k none run =
    let e : Tree = app f a in
    let one : Runs w (core_applied e (const c ls) (args e)) v n = subst (λ z. Runs w (core_applied e z (args e)) v n) h run in
    let two = rec_run w e c ls (args e) g r v n m k one in
    let three = subst (λ z. Runs w (iota e g ls r (take (before_major r) (args e)) z (drop (suc (before_major r)) (args e))) v n) none two in
    sym three.0
itself w (const d ms) c ls g r v n h m k none run = sym run.0
itself w _ c ls g r v n h m k none run = absurd cc

pub none_whole : {w : Place} {c : Contents} {r : Row} {most : ℕ} {e : Tree} → HasNoMajor w e → IsEmpty r → IsClaim w (core e) most → IsWhole w c (core e) r
none_whole {w = w} {c = c} {r = r} {e = e} h empty k =
    let o : IsOpened w (core e) k.answer k.cost = opened_so w (core e) k.answer k.cost k.answered in
    let paid : k.cost ≡ suc o.0 = o.1 in
    let same : k.answer ≡ e = itself w e h.name h.levels h.entry h.recursor k.answer o.0 h.head_is h.means h.kind_is h.none o.2 in
    part_whole w c r (core e) e k.cost 0 [] (subst (λ u. IsAnswered w (core e) u k.cost) same k.answered) tt (omega arith)
    (part_these w c r [] (reduces e e ∷ []) 0 0 (inl (same_self e), tt) (omega arith) (part_none w c r empty))
