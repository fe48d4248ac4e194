-- Names without LF are no names of auxiliary things.
use Rattle.std.proofs.Common.{◌≡◌, inl, inr, true, ◌&&◌, [], ◌∷◌}
use Rattle.lk_tree.specs.Tree.{Name, Part, Tree, var, sort, const, app, lam, pi, let_in, proj, lit, wide, str, local}
use Rattle.lk_tree.proofs.Scans.{both_true}
use Rattle.lk_rulebook.specs.Units.{Library, Members, members_of, Trees, trees_of}
use Rattle.lk_inductive.specs.NestedRelation.{IsMarked, Clear}
use Rattle.lk_verdict.specs.GoodUnit.{NamesClear, AllClear, IsClearLibrary}
use Rattle.lk_rulebook.specs.Spelled.{is_spelled, tree_spelled, all_spelled, names_spelled, library_spelled}

not_marked : (c : Name) → is_spelled c ≡ true → IsMarked c → ⊥
not_marked c h (d, inl e) = let k : is_spelled (Part.text (10 ∷ []) ∷ d) ≡ true = rw e at h in absurd cc
not_marked c h (d, inr e) = let k : is_spelled (Part.text (10 ∷ 10 ∷ []) ∷ d) ≡ true = rw e at h in absurd cc

clear : (e : Tree) → tree_spelled e ≡ true → Clear e
clear (const c ls) h = not_marked c h
clear (app f a) h = let x : (tree_spelled f ≡ true) × (tree_spelled a ≡ true) = both_true (tree_spelled f) (tree_spelled a) h in (clear f x.0, clear a x.1)
clear (lam A b) h = let x : (tree_spelled A ≡ true) × (tree_spelled b ≡ true) = both_true (tree_spelled A) (tree_spelled b) h in (clear A x.0, clear b x.1)
clear (pi A b) h = let x : (tree_spelled A ≡ true) × (tree_spelled b ≡ true) = both_true (tree_spelled A) (tree_spelled b) h in (clear A x.0, clear b x.1)
clear (let_in A v b) h =
    let x : (tree_spelled A ≡ true) × ((tree_spelled v && tree_spelled b) ≡ true) = both_true (tree_spelled A) (tree_spelled v && tree_spelled b) h in
    let y : (tree_spelled v ≡ true) × (tree_spelled b ≡ true) = both_true (tree_spelled v) (tree_spelled b) x.1 in
    (clear A x.0, clear v y.0, clear b y.1)
clear (proj S i e) h = clear e h
clear (var i) h = tt
clear (sort l) h = tt
clear (lit n) h = tt
clear wide h = tt
clear (str s) h = tt
clear (local k T) h = tt

trees_clear : (es : Trees) → all_spelled es ≡ true → AllClear es
trees_clear [] h = tt
trees_clear (e ∷ es) h = let x : (tree_spelled e.1 ≡ true) × (all_spelled es ≡ true) = both_true (tree_spelled e.1) (all_spelled es) h in (clear e.1 x.0, trees_clear es x.1)

names_clear : (ms : Members) → names_spelled ms ≡ true → NamesClear ms
names_clear [] h = tt
names_clear (m ∷ ms) h = let x : (is_spelled m.0 ≡ true) × (names_spelled ms ≡ true) = both_true (is_spelled m.0) (names_spelled ms) h in (not_marked m.0 x.0, names_clear ms x.1)

pub spelled_clear : (us : Library) → library_spelled us ≡ true → IsClearLibrary us
spelled_clear [] h = tt
spelled_clear (u ∷ us) h =
    let ms : Members = members_of u in
    let es : Trees = trees_of u in
    let x : ((names_spelled ms && all_spelled es) ≡ true) × (library_spelled us ≡ true) = both_true (names_spelled ms && all_spelled es) (library_spelled us) h in
    let y : (names_spelled ms ≡ true) × (all_spelled es ≡ true) = both_true (names_spelled ms) (all_spelled es) x.0 in
    (record { names = names_clear ms y.0; trees = trees_clear es y.1 }, spelled_clear us x.1)
