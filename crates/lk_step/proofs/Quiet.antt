-- Programs that look at shapes ask nothing: what they find is found at the place, and their steps are those of what comes next.
use Rattle.std.proofs.Common.{ℕ, ◌≡◌, Bool, false, ◌&&◌, nat_eq, length, List, [], ◌∷◌, Option, Some, None, refl, ap, ◌∙◌}
use Rattle.std.specs.Str.{is_utf8, chars}
use Rattle.lk_tree.specs.Tree.{Name, zero_level, succ_level, Tree, sort, const, str}
use Rattle.lk_tree.specs.LevelTest.{level_test}
use Rattle.lk_rulebook.specs.Place.{Place, Entry, Kind, a_type}
use Rattle.lk_rulebook.specs.Literals.{expansion, expansion_names}
use Rattle.lk_questions.specs.Answer.{later}
use Rattle.lk_questions.specs.Program.{Program, done, refuse, ask, look, ◌>>=◌}
use Rattle.lk_questions.specs.Erased.{Steps, looked, a_tree, erased}
use Rattle.lk_questions.specs.Iota.{ctor_app_of}
use Rattle.lk_questions.specs.Levels.{tested}
use Rattle.lk_questions.specs.Shapes.{is_sort_one, has_string_shape}
use Rattle.lk_questions.specs.Sound.{IsSound}
use Rattle.lk_questions.specs.Strings.{look_all, has_mk_alone, expansion_by, expansion_of, tree_or, text_to_ctor}
use Rattle.lk_questions.specs.Tests.{found}
use Rattle.lk_table_sound.proofs.Soundness.{IsQuiet, quiet_bind, quiet_if}
use Rattle.lk_step.specs.Runs.{Runs}

quiet_tested : (o : Option Bool) → IsQuiet (tested o)
quiet_tested (Some b) = tt
quiet_tested None = tt

pub quiet_sort_one : (e : Tree) → IsQuiet (is_sort_one e)
quiet_sort_one (sort l) = quiet_tested (level_test l (succ_level zero_level))
quiet_sort_one _ = tt

quiet_string_by : (g : Entry) (k : Kind) → IsQuiet (has_string_shape g k)
quiet_string_by g (a_type block t) = quiet_if (nat_eq (length block.types) 1 && nat_eq (length g.levels) 0) (is_sort_one g.type) (done false) (quiet_sort_one g.type) tt
quiet_string_by g _ = tt

quiet_look_all : (cs : List Name) → IsQuiet (look_all cs)
quiet_look_all [] = tt
quiet_look_all (c ∷ cs) = λ g. quiet_look_all cs

quiet_expansion_by : (s : List ℕ) (g : Entry) (k : Kind) → IsQuiet (expansion_by s g k)
quiet_expansion_by s g k = quiet_bind (has_string_shape g k) _ (quiet_string_by g k)
    (λ has. quiet_if (has && (has_mk_alone k && is_utf8 s)) _ (done None) (quiet_bind (look_all (expansion_names (chars s))) (λ u. done (Some (expansion (chars s)))) (quiet_look_all (expansion_names (chars s))) (λ u. tt)) tt)

quiet_expansion : (s : List ℕ) → IsQuiet (expansion_of s)
quiet_expansion s = λ g. quiet_expansion_by s g g.kind

pub quiet_text : (m : Tree) → IsQuiet (text_to_ctor m)
quiet_text (str s) = quiet_bind (expansion_of s) (λ x. done (tree_or x (str s))) (quiet_expansion s) (λ x. tt)
quiet_text _ = tt

pub quiet_ctor_app : (h : Tree) (xs : List Tree) → IsQuiet (ctor_app_of h xs)
quiet_ctor_app (const c ks) xs = λ g. tt
quiet_ctor_app _ xs = tt

pub found_next : (w : Place) (r : _) (last : Option ℕ) (c : Name) (o : Option Entry) (g : Entry) (next : Option ℕ → Entry → Steps) → o ≡ Some g → looked r last o (w.origin c) (w.flaw c) next ≡ next (later last (Some (w.origin c))) g
found_next w r last c o g next e = ap (λ z. looked r last z (w.origin c) (w.flaw c) next) e

-- p gives this, for nothing, and k goes on
pub record Quietly {A : Type 0} (w : Place) (P : A → Type 0) (p : Program A) (k : A → Program Tree) (v : Tree) (n : ℕ) (last : Option ℕ) : Type 0 where
  pub value : A
  pub found_is : found w p ≡ Some value
  pub holds : P value
  pub after : Runs w (k value) v n
  pub next : Option ℕ
  pub same : erased w a_tree last (p >>= k) ≡ erased w a_tree next (k value)

pub quietly : {A : Type 0} (w : Place) (P : A → Type 0) (p : Program A) (k : A → Program Tree) (v : Tree) (n : ℕ) (last : Option ℕ) → IsQuiet p → IsSound w p P → Runs w (p >>= k) v n → Quietly w P p k v n last
quietly w P (done u) k v n last q s h = record { value = u; found_is = refl; holds = s; after = h; next = last; same = refl }
quietly w P (refuse r) k v n last q s h = absurd h
quietly w P (ask x f) k v n last q s h = absurd q
quietly w P (look r c f) k v n last q s h =
    let i : Quietly w P (f h.0) k v n (later last (Some (w.origin c))) = quietly w P (f h.0) k v n (later last (Some (w.origin c))) (q h.0) (s h.0 h.1) h.2 in
    record {
      value = i.value;
      found_is = rw h.1 i.found_is;
      holds = i.holds;
      after = i.after;
      next = i.next;
      same = found_next w r last c (w.means c) h.0 (λ u g. erased w a_tree u (f g >>= k)) h.1 ∙ i.same;
    }
