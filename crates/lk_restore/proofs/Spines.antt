-- What the walk makes of a tree is the tree read back: by its head and its arguments.
use Rattle.std.proofs.Common.{◌≡◌, List, [], ◌∷◌, ◌++◌, map, Option, Some, None, refl, sym, ap, ◌∙◌, append_assoc}
use Rattle.std.specs.Prelude.{option_map, if◌then◌else◌}
use Rattle.std.proofs.lemmas.List.{map-append, append-nil}
use Rattle.lk_tree.specs.Tree.{Name, Level, param, Tree, var, sort, const, app, lam, pi, let_in, proj, lit, wide, str, local, tree_discrete}
use Rattle.lk_tree.specs.Spine.{apply, head, args}
use Rattle.lk_tree.proofs.Within.{apply_head_args}
use Rattle.lk_rulebook.specs.SameTree.{decided, is_same_tree}
use Rattle.lk_inductive.specs.Arguments.{after_params}
use Rattle.lk_inductive.specs.Block.{AreLocals}
use Rattle.lk_inductive.specs.Enlarged.{Setting}
use Rattle.lk_inductive.specs.Restore.{Original, applied_to, renamed_as, stands_for, put_at, after_own, put_back, restore}
use Rattle.lk_restore.specs.Originals.{at_own}
use Rattle.lk_restore.specs.Marks.{Mark, instead, constant_back, or_built, read}
use Rattle.lk_restore.proofs.Params.{apply-push, head-apply, args-apply, itself, after_all, after_more, after_none}
use Rattle.lk_restore.proofs.Marking.{mark_of, marks_of, whole_of, first_is, own_head, own_instead, other_instead}
use Rattle.lk_restore.proofs.Kept.{locals_kept, locals_back}

head_is : (c : Name) (ls : List Level) (xs : List Tree) → head (apply (const c ls) xs) ≡ const c ls
unfolding head
head_is c ls xs = head-apply (const c ls) xs

pub args_are : (c : Name) (ls : List Level) (xs : List Tree) → args (apply (const c ls) xs) ≡ xs
unfolding args
args_are c ls xs = args-apply (const c ls) xs

head_app : (f a : Tree) → head (app f a) ≡ head f
unfolding head
head_app f a = refl

args_app : (f a : Tree) → args (app f a) ≡ args f ++ a ∷ []
unfolding args
args_app f a = refl

module _ (s : Setting) (ms : List (Name × Original)) where
  abbrev all : List Mark
  all = marks_of s ms

  abbrev own : List Level
  own = map param s.levels

  -- a head at arguments that are read back
  abbrev back_at : Tree → List Tree → Tree
  back_at (const c ls) zs = put_back s c ls zs (stands_for ms c)
  back_at h zs = apply (read all h) zs

  -- no constant at the block's levels and parameters
  not_own : (c : Name) (ls : List Level) (t : Tree) → head t ≡ const c ls → (t ≡ at_own s c → ⊥) → (n : Name) → t ≡ at_own s n → ⊥
  not_own c ls t e differs n same =
      let heads : const c ls ≡ const n own = sym e ∙ ap head same ∙ own_head s n in
      let names : n ≡ c = cc in
      differs (same ∙ ap (at_own s) names)

  -- a constant that is recognised, and one that is not
  constant_whole : (c : Name) (ls : List Level) (o : Option Original) → after_own s c ls [] ≡ Some [] → or_built (whole_of o) (constant_back c ls (option_map (mark_of s c) o)) ≡ put_back s c ls [] o
  constant_whole c ls None h = refl
  constant_whole c ls (Some (renamed_as R)) h = refl
  constant_whole c ls (Some (applied_to J ks bs)) h = sym (ap (put_at c ls [] J ks bs) h)

  constant_stays : (c : Name) (ls : List Level) (o : Option Original) → after_own s c ls [] ≡ None → constant_back c ls (option_map (mark_of s c) o) ≡ put_back s c ls [] o
  constant_stays c ls None h = refl
  constant_stays c ls (Some (renamed_as R)) h = refl
  constant_stays c ls (Some (applied_to J ks bs)) h = sym (ap (put_at c ls [] J ks bs) h)

  -- no arguments are there, and these are not all that are asked for
  after_nothing : (c : Name) (ls : List Level) → (const c ls ≡ at_own s c → ⊥) → after_own s c ls [] ≡ None
  after_nothing c ls differs = go (tree_discrete (const c ls) (const c own))
    where
      none : const c ls ≡ const c own → (ps : List Tree) → s.params ≡ ps → after_params ps [] ≡ None
      none e [] i = absurd (differs (e ∙ ap (apply (const c own)) (sym i)))
      none e (p ∷ ps) i = refl

      go : (d : Dec (const c ls ≡ const c own)) → (if decided d then after_params s.params [] else None) ≡ None
      go (yes e) = none e s.params refl
      go (no f) = refl

  -- one argument more for a constant that is not recognised
  one_more : (c : Name) (ls : List Level) (J : Name) (ks : List Level) (bs zs : List Tree) (z : Tree) → (ls ≡ own → zs ++ z ∷ [] ≡ s.params → ⊥)
      → app (put_at c ls zs J ks bs (after_own s c ls zs)) z ≡ put_at c ls (zs ++ z ∷ []) J ks bs (after_own s c ls (zs ++ z ∷ []))
  one_more c ls J ks bs zs z differs = go (tree_discrete (const c ls) (const c own))
    where
      more : const c ls ≡ const c own → (o : Option (List Tree)) → after_params s.params zs ≡ o
          → app (put_at c ls zs J ks bs (after_params s.params zs)) z ≡ put_at c ls (zs ++ z ∷ []) J ks bs (after_params s.params (zs ++ z ∷ []))
      more e (Some rest) i =
          ap (λ o. app (put_at c ls zs J ks bs o) z) i
          ∙ sym (apply-push (apply (const J ks) bs) rest z)
          ∙ sym (ap (put_at c ls (zs ++ z ∷ []) J ks bs) (after_more s.params zs rest z i))
      more e None i =
          ap (λ o. app (put_at c ls zs J ks bs o) z) i
          ∙ sym (apply-push (const c ls) zs z)
          ∙ sym (ap (put_at c ls (zs ++ z ∷ []) J ks bs) (after_none s.params zs z i (differs (let same : ls ≡ own = cc in same))))

      go : (d : Dec (const c ls ≡ const c own)) → app (put_at c ls zs J ks bs (if decided d then after_params s.params zs else None)) z
          ≡ put_at c ls (zs ++ z ∷ []) J ks bs (if decided d then after_params s.params (zs ++ z ∷ []) else None)
      go (yes e) = more e (after_params s.params zs) refl
      go (no f) = sym (apply-push (const c ls) zs z)

  application_whole : (c : Name) (ls : List Level) (zs : List Tree) (z : Tree) (o : Option Original) → after_own s c ls (zs ++ z ∷ []) ≡ Some []
      → or_built (whole_of o) (app (put_back s c ls zs o) z) ≡ put_back s c ls (zs ++ z ∷ []) o
  application_whole c ls zs z None h = sym (apply-push (const c ls) zs z)
  application_whole c ls zs z (Some (renamed_as R)) h = sym (apply-push (const R ls) zs z)
  application_whole c ls zs z (Some (applied_to J ks bs)) h = sym (ap (put_at c ls (zs ++ z ∷ []) J ks bs) h)

  application_stays : (c : Name) (ls : List Level) (zs : List Tree) (z : Tree) (o : Option Original) → (ls ≡ own → zs ++ z ∷ [] ≡ s.params → ⊥)
      → app (put_back s c ls zs o) z ≡ put_back s c ls (zs ++ z ∷ []) o
  application_stays c ls zs z None h = sym (apply-push (const c ls) zs z)
  application_stays c ls zs z (Some (renamed_as R)) h = sym (apply-push (const R ls) zs z)
  application_stays c ls zs z (Some (applied_to J ks bs)) h = one_more c ls J ks bs zs z h

  -- an application whose head is no constant
  other_application : (f a h : Tree) → head f ≡ h → ((c : Name) → h ≡ const c own → ⊥) → (zs : List Tree) (z : Tree)
      → or_built (instead all all (app f a)) (app (apply (read all h) zs) z) ≡ apply (read all h) (zs ++ z ∷ [])
  other_application f a h e differs zs z =
      ap (λ o. or_built o (app (apply (read all h) zs) z)) (other_instead s ms ms (app f a) (λ c same. differs c (sym e ∙ sym (head_app f a) ∙ ap head same ∙ own_head s c)))
      ∙ sym (apply-push (read all h) zs z)

  module _ (locals : AreLocals s.params) where
    -- a constant that is recognised has the arguments that the definition asks for
    whole_back : (c : Name) (ls : List Level) (xs : List Tree) → apply (const c ls) xs ≡ at_own s c → after_own s c ls (map (read all) xs) ≡ Some []
    whole_back c ls xs e =
        let heads : const c ls ≡ const c own = sym (head_is c ls xs) ∙ ap head e ∙ own_head s c in
        let arguments : xs ≡ s.params = sym (args_are c ls xs) ∙ ap args e ∙ args_are c own s.params in
        ap (λ h. if is_same_tree h (const c own) then after_params s.params (map (read all) xs) else None) heads
        ∙ ap (λ b. if b then after_params s.params (map (read all) xs) else None) (itself (const c own))
        ∙ ap (after_params s.params) (ap (map (read all)) arguments ∙ locals_kept s ms s.params locals)
        ∙ after_all s.params

    constant : (c : Name) (ls : List Level) → read all (const c ls) ≡ put_back s c ls [] (stands_for ms c)
    unfolding read
    constant c ls = ap (λ m. or_built (instead all all (const c ls)) (constant_back c ls m)) (first_is s ms c) ∙ go (tree_discrete (const c ls) (at_own s c))
      where
        go : (d : Dec (const c ls ≡ at_own s c)) → or_built (instead all all (const c ls)) (constant_back c ls (option_map (mark_of s c) (stands_for ms c))) ≡ put_back s c ls [] (stands_for ms c)
        go (yes e) =
            ap (λ o. or_built o (constant_back c ls (option_map (mark_of s c) (stands_for ms c)))) (ap (instead all all) e ∙ own_instead s ms c)
            ∙ constant_whole c ls (stands_for ms c) (whole_back c ls [] e)
        go (no f) =
            ap (λ o. or_built o (constant_back c ls (option_map (mark_of s c) (stands_for ms c)))) (other_instead s ms ms (const c ls) (not_own c ls (const c ls) (head_is c ls []) f))
            ∙ constant_stays c ls (stands_for ms c) (after_nothing c ls f)

    -- the constant applied to the arguments of f and to a
    constant_application : (f a : Tree) (c : Name) (ls : List Level) → head f ≡ const c ls
        → or_built (instead all all (app f a)) (app (put_back s c ls (map (read all) (args f)) (stands_for ms c)) (read all a)) ≡ put_back s c ls (map (read all) (args f) ++ read all a ∷ []) (stands_for ms c)
    constant_application f a c ls e = go (tree_discrete (app f a) (at_own s c))
      where
        spine : app f a ≡ apply (const c ls) (args f ++ a ∷ [])
        spine = sym (apply_head_args (app f a)) ∙ ap (λ h. apply h (args (app f a))) (head_app f a ∙ e) ∙ ap (apply (const c ls)) (args_app f a)

        pushed : map (read all) (args f ++ a ∷ []) ≡ map (read all) (args f) ++ read all a ∷ []
        pushed = map-append (read all) (args f) (a ∷ [])

        go : (d : Dec (app f a ≡ at_own s c))
            → or_built (instead all all (app f a)) (app (put_back s c ls (map (read all) (args f)) (stands_for ms c)) (read all a)) ≡ put_back s c ls (map (read all) (args f) ++ read all a ∷ []) (stands_for ms c)
        go (yes same) =
            ap (λ o. or_built o (app (put_back s c ls (map (read all) (args f)) (stands_for ms c)) (read all a))) (ap (instead all all) same ∙ own_instead s ms c)
            ∙ application_whole c ls (map (read all) (args f)) (read all a) (stands_for ms c) (ap (after_own s c ls) (sym pushed) ∙ whole_back c ls (args f ++ a ∷ []) (sym spine ∙ same))
        go (no differs) =
            ap (λ o. or_built o (app (put_back s c ls (map (read all) (args f)) (stands_for ms c)) (read all a))) (other_instead s ms ms (app f a) (not_own c ls (app f a) (head_app f a ∙ e) differs))
            ∙ application_stays c ls (map (read all) (args f)) (read all a) (stands_for ms c)
            (λ levels arguments. differs (spine ∙ ap (λ ks. apply (const c ks) (args f ++ a ∷ [])) levels ∙ ap (apply (const c own)) (locals_back s ms (args f ++ a ∷ []) s.params locals (pushed ∙ arguments))))

    application : (f a h : Tree) → head f ≡ h → or_built (instead all all (app f a)) (app (back_at h (map (read all) (args f))) (read all a)) ≡ back_at h (map (read all) (args f) ++ read all a ∷ [])
    application f a (const c ls) e = constant_application f a c ls e
    application f a (var i) e = other_application f a (var i) e (λ c i. absurd cc) (map (read all) (args f)) (read all a)
    application f a (sort l) e = other_application f a (sort l) e (λ c i. absurd cc) (map (read all) (args f)) (read all a)
    application f a (app g b) e = other_application f a (app g b) e (λ c i. absurd cc) (map (read all) (args f)) (read all a)
    application f a (lam A b) e = other_application f a (lam A b) e (λ c i. absurd cc) (map (read all) (args f)) (read all a)
    application f a (pi A B) e = other_application f a (pi A B) e (λ c i. absurd cc) (map (read all) (args f)) (read all a)
    application f a (let_in A v b) e = other_application f a (let_in A v b) e (λ c i. absurd cc) (map (read all) (args f)) (read all a)
    application f a (proj S i b) e = other_application f a (proj S i b) e (λ c i. absurd cc) (map (read all) (args f)) (read all a)
    application f a (lit n) e = other_application f a (lit n) e (λ c i. absurd cc) (map (read all) (args f)) (read all a)
    application f a wide e = other_application f a wide e (λ c i. absurd cc) (map (read all) (args f)) (read all a)
    application f a (str k) e = other_application f a (str k) e (λ c i. absurd cc) (map (read all) (args f)) (read all a)
    application f a (local k T) e = other_application f a (local k T) e (λ c i. absurd cc) (map (read all) (args f)) (read all a)

    -- what the walk makes of a tree
    walked : (t : Tree) → read all t ≡ back_at (head t) (map (read all) (args t))
    unfolding read head args
    walked (const c ls) = constant c ls
    walked (app f a) =
        ap (λ u. or_built (instead all all (app f a)) (app u (read all a))) (walked f)
        ∙ application f a (head f) refl
        ∙ ap (back_at (head f)) (sym (map-append (read all) (args f) (a ∷ [])))
    walked (var i) = refl
    walked (sort l) = refl
    walked (lam A b) = refl
    walked (pi A B) = refl
    walked (let_in A v b) = refl
    walked (proj S i e) = refl
    walked (lit n) = refl
    walked wide = refl
    walked (str k) = refl
    walked (local k T) = refl

    -- without further arguments
    read_as : (t : Tree) → restore ms s t [] ≡ back_at (head t) (map (read all) (args t) ++ []) → restore ms s t [] ≡ read all t
    read_as t h = h ∙ ap (back_at (head t)) (append-nil (map (read all) (args t))) ∙ sym (walked t)

    restored : (t : Tree) (zs : List Tree) → restore ms s t zs ≡ back_at (head t) (map (read all) (args t) ++ zs)
    unfolding read head args
    restored (app f a) zs =
        restored f (restore ms s a [] ∷ zs)
        ∙ ap (λ z. back_at (head f) (map (read all) (args f) ++ z ∷ zs)) (read_as a (restored a []))
        ∙ ap (back_at (head f)) (sym (append_assoc (map (read all) (args f)) (read all a ∷ []) zs) ∙ ap (λ ys. ys ++ zs) (sym (map-append (read all) (args f) (a ∷ []))))
    restored (const c ls) zs = refl
    restored (lam A b) zs = ap (λ x. apply (lam x (restore ms s b [])) zs) (read_as A (restored A [])) ∙ ap (λ x. apply (lam (read all A) x) zs) (read_as b (restored b []))
    restored (pi A B) zs = ap (λ x. apply (pi x (restore ms s B [])) zs) (read_as A (restored A [])) ∙ ap (λ x. apply (pi (read all A) x) zs) (read_as B (restored B []))
    restored (let_in A v b) zs =
        ap (λ x. apply (let_in x (restore ms s v []) (restore ms s b [])) zs) (read_as A (restored A []))
        ∙ ap (λ x. apply (let_in (read all A) x (restore ms s b [])) zs) (read_as v (restored v []))
        ∙ ap (λ x. apply (let_in (read all A) (read all v) x) zs) (read_as b (restored b []))
    restored (proj S i e) zs = ap (λ x. apply (proj S i x) zs) (read_as e (restored e []))
    restored (var i) zs = refl
    restored (sort l) zs = refl
    restored (lit n) zs = refl
    restored wide zs = refl
    restored (str k) zs = refl
    restored (local k T) zs = refl

    -- what the walk makes of a tree is the tree read back
    pub walk_restores : (t : Tree) → read all t ≡ restore ms s t []
    walk_restores t = sym (read_as t (restored t []))
