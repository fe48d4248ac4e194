-- Names, levels and trees that are written are read, and stand for themselves.
use Rattle.std.proofs.Common.{◌≡◌, ◌≢◌, true, List, [], ◌∷◌, Some, ◌∙◌, subst}
use Rattle.std.specs.Prelude.{All, slice_get, reverse}
use Rattle.std.proofs.lemmas.List.{reverse-reverse}
use Rattle.std.proofs.lemmas.List.Elements.{All-nil, All-cons, All-head, All-tail, All-weaker}
use Rattle.lk_tree.specs.Tree.{Name, name_discrete, Part, Level, level_discrete, zero_level}
use Rattle.lk_tree.specs.Tree.{succ_level, max_level, imax_level, param, Tree, tree_discrete, var}
use Rattle.lk_tree.specs.Tree.{sort, const, app, lam, pi, let_in, proj, lit, wide, str, local}
use Rattle.lk_rulebook.specs.Place.{RecRule}
use Rattle.lk_book.specs.Course.{Course}
use Rattle.lk_trim.specs.Written.{File}
use Rattle.lk_trim.specs.Names.{has_name, name_number, add_name, write_back, write_name}
use Rattle.lk_trim.specs.Names.{write_names}
use Rattle.lk_trim.specs.Levels.{has_level, level_number, add_level, level_once, write_level}
use Rattle.lk_trim.specs.Levels.{write_levels}
use Rattle.lk_trim.specs.Trees.{has_tree, tree_number, add_tree, tree_once, write_tree}
use Rattle.lk_readback.specs.Statable.{IsPart, IsName, AreNames, IsLevel, IsTree}
use Rattle.lk_readback.specs.Stated.{IsRead}
use Rattle.lk_readback.proofs.Growing.{Grows, Goes}
use Rattle.lk_readback.proofs.Fronts.{has_front, has_last, has_first, place_get, get_front}
use Rattle.lk_readback.proofs.Fronts.{grows_refl, grows_trans}
use Rattle.lk_readback.proofs.Adding.{add_name_grows, name_on, add_level_grows, level_on}
use Rattle.lk_readback.proofs.Adding.{add_tree_grows, tree_on}
use Rattle.lk_readback.proofs.Ready.{LevelReady, TreeReady, succ_ready, max_ready, imax_ready}
use Rattle.lk_readback.proofs.Ready.{param_ready, var_ready, sort_ready, const_ready, app_ready}
use Rattle.lk_readback.proofs.Ready.{lam_ready, pi_ready, let_ready, proj_ready, lit_ready}
use Rattle.lk_readback.proofs.Ready.{wide_ready, str_ready}
use Rattle.lk_readback.proofs.Going.{Begins, begins_grows, goes_refl, goes_on, goes_trans, goes_if}
use Rattle.lk_readback.proofs.Going.{grows_if, either_file, all_reverse}

-- what has its line keeps it
pub grows_name : (f g : File) (x : Name) → Grows f g → has_name f.written x ≡ true
    → has_name g.written x ≡ true
grows_name f g x grows has =
    has_front name_discrete f.written.names g.written.names x grows.names has

pub grows_level : (f g : File) (v : Level) → Grows f g → has_level f.written v ≡ true
    → has_level g.written v ≡ true
grows_level f g v grows has =
    has_front level_discrete f.written.levels g.written.levels v grows.levels has

pub grows_tree : (f g : File) (e : Tree) → Grows f g → has_tree f.written e ≡ true
    → has_tree g.written e ≡ true
grows_tree f g e grows has =
    has_front tree_discrete f.written.trees g.written.trees e grows.trees has

-- the number of what has its line stands for it
pub name_known : (f : File) (rules : List RecRule) (c : Course) (x : Name) → IsRead f rules c
    → has_name f.written x ≡ true → c.state.names (name_number f.written x) ≡ Some x
name_known f rules c x read has =
    read.names (name_number f.written x) ∙ place_get name_discrete f.written.names x has

pub level_known : (f : File) (rules : List RecRule) (c : Course) (v : Level) → IsRead f rules c
    → has_level f.written v ≡ true → c.state.levels (level_number f.written v) ≡ Some v
level_known f rules c v read has =
    read.levels (level_number f.written v) ∙ place_get level_discrete f.written.levels v has

pub tree_known : (f : File) (rules : List RecRule) (c : Course) (e : Tree) → IsRead f rules c
    → has_tree f.written e ≡ true → c.state.trees (tree_number f.written e) ≡ Some e
tree_known f rules c e read has =
    read.trees (tree_number f.written e) ∙ place_get tree_discrete f.written.trees e has

-- number 0 stands for the anonymous name
pub anonymous_known : (f : File) (rules : List RecRule) (c : Course) → IsRead f rules c
    → c.state.names 0 ≡ Some []
anonymous_known f rules c read = read.names 0 ∙ read.anonymous

-- Names.

add_name_has : (ps : List Part) (f : File) → has_name (add_name ps f).written (reverse ps) ≡ true
unfolding add_name
add_name_has ps f = has_last name_discrete f.written.names (reverse ps)

back_grows : (ps : List Part) (f : File) → Grows f (write_back ps f)
back_grows [] f = grows_refl f
back_grows (p ∷ ps) f =
    grows_if (has_name f.written (reverse (p ∷ ps))) f (add_name (p ∷ ps) (write_back ps f))
    (grows_trans f (write_back ps f) (add_name (p ∷ ps) (write_back ps f)) (back_grows ps f)
    (add_name_grows p ps (write_back ps f)))

back_has : (ps : List Part) (f : File) → slice_get f.written.names 0 ≡ Some []
    → has_name (write_back ps f).written (reverse ps) ≡ true
back_has [] f first = has_first name_discrete f.written.names [] first
back_has (p ∷ ps) f first =
    let P : File → Type 0 = λ g. has_name g.written (reverse (p ∷ ps)) ≡ true in
    either_file P (has_name f.written (reverse (p ∷ ps))) f (add_name (p ∷ ps) (write_back ps f))
    (λ e. e) (add_name_has (p ∷ ps) (write_back ps f))

back_goes : (ps : List Part) (f : File) → All IsPart ps → Goes f (write_back ps f)
back_goes [] f parts = goes_refl f
back_goes (p ∷ ps) f parts =
    goes_if (has_name f.written (reverse (p ∷ ps))) f (add_name (p ∷ ps) (write_back ps f))
    (goes_on f (write_back ps f) (add_name (p ∷ ps) (write_back ps f))
    (back_goes ps f (All-tail IsPart p ps parts)) (add_name_grows p ps (write_back ps f))
    (λ begins rules c read fits. name_on p ps (write_back ps f) rules c
    (All-head IsPart p ps parts) read (back_has ps f begins.anonymous) fits))

-- what is written is read, and has its line, the anonymous name where it stands before all others
pub write_name_goes : (x : Name) (f : File) → IsName x → Goes f (write_name x f)
write_name_goes x f name = back_goes (reverse x) f (all_reverse IsPart x name)

pub write_name_grows : (x : Name) (f : File) → Grows f (write_name x f)
write_name_grows x f = back_grows (reverse x) f

pub write_name_has : (x : Name) (f : File) → slice_get f.written.names 0 ≡ Some []
    → has_name (write_name x f).written x ≡ true
write_name_has x f first =
    let P : Name → Type 0 = λ y. has_name (write_name x f).written y ≡ true in
    subst P (reverse-reverse x) (back_has (reverse x) f first)

pub write_names_goes : (xs : List Name) (f : File) → AreNames xs → Goes f (write_names xs f)
write_names_goes [] f names = goes_refl f
write_names_goes (x ∷ xs) f names =
    goes_trans f (write_name x f) (write_names xs (write_name x f))
    (write_name_goes x f (All-head IsName x xs names))
    (write_names_goes xs (write_name x f) (All-tail IsName x xs names))

pub write_names_grows : (xs : List Name) (f : File) → Grows f (write_names xs f)
write_names_grows [] f = grows_refl f
write_names_grows (x ∷ xs) f =
    grows_trans f (write_name x f) (write_names xs (write_name x f)) (write_name_grows x f)
    (write_names_grows xs (write_name x f))

pub write_names_has : (xs : List Name) (f : File) → slice_get f.written.names 0 ≡ Some []
    → All (λ x. has_name (write_names xs f).written x ≡ true) xs
write_names_has [] f first = All-nil (λ x. has_name f.written x ≡ true)
write_names_has (x ∷ xs) f first =
    let one : File = write_name x f in
    let all : File = write_names xs one in
    All-cons (λ y. has_name all.written y ≡ true) x xs
    (grows_name one all x (write_names_grows xs one) (write_name_has x f first))
    (write_names_has xs one
    (get_front f.written.names one.written.names 0 [] (write_name_grows x f).names first))

-- Levels.

add_level_has : (v : Level) (f : File) → has_level (add_level v f).written v ≡ true
unfolding add_level
add_level_has v f = has_last level_discrete f.written.levels v

level_once_has : (v : Level) (f g : File) → has_level (level_once v f g).written v ≡ true
level_once_has v f g =
    let P : File → Type 0 = λ h. has_level h.written v ≡ true in
    either_file P (has_level f.written v) f (add_level v g) (λ e. e) (add_level_has v g)

level_goes : (v : Level) (f g : File) → v ≢ zero_level → Goes f g
    → (Begins f.written → (rules : List RecRule) (c : Course) → IsRead g rules c
    → LevelReady c.state g.written v)
    → Goes f (level_once v f g)
level_goes v f g other goes ready =
    goes_if (has_level f.written v) f (add_level v g)
    (goes_on f g (add_level v g) goes (add_level_grows v g)
    (λ begins rules c read fits. level_on v g rules c other read (ready begins rules c read) fits))

pub write_level_has : (v : Level) (f : File) → slice_get f.written.levels 0 ≡ Some zero_level
    → has_level (write_level v f).written v ≡ true
write_level_has zero_level f first = has_first level_discrete f.written.levels zero_level first
write_level_has (succ_level v) f first = level_once_has (succ_level v) f _
write_level_has (max_level v u) f first = level_once_has (max_level v u) f _
write_level_has (imax_level v u) f first = level_once_has (imax_level v u) f _
write_level_has (param n) f first = level_once_has (param n) f _

pub write_level_goes : (v : Level) (f : File) → IsLevel v → Goes f (write_level v f)
write_level_goes zero_level f level = goes_refl f
write_level_goes (succ_level v) f level =
    let g : File = write_level v f in
    level_goes (succ_level v) f g (λ e. absurd cc) (write_level_goes v f level)
    (λ begins rules c read. succ_ready c.state g.written v
    (level_known g rules c v read (write_level_has v f begins.zero)))
write_level_goes (max_level v u) f level =
    let g : File = write_level v f in
    let h : File = write_level u g in
    let first = write_level_goes v f level.0 in
    let second = write_level_goes u g level.1 in
    level_goes (max_level v u) f h (λ e. absurd cc) (goes_trans f g h first second)
    (λ begins rules c read. max_ready c.state h.written v u
    (level_known h rules c v read
    (grows_level g h v second.grows (write_level_has v f begins.zero)))
    (level_known h rules c u read
    (write_level_has u g (begins_grows f g first.grows begins).zero)))
write_level_goes (imax_level v u) f level =
    let g : File = write_level v f in
    let h : File = write_level u g in
    let first = write_level_goes v f level.0 in
    let second = write_level_goes u g level.1 in
    level_goes (imax_level v u) f h (λ e. absurd cc) (goes_trans f g h first second)
    (λ begins rules c read. imax_ready c.state h.written v u
    (level_known h rules c v read
    (grows_level g h v second.grows (write_level_has v f begins.zero)))
    (level_known h rules c u read
    (write_level_has u g (begins_grows f g first.grows begins).zero)))
write_level_goes (param n) f level =
    let g : File = write_name n f in
    level_goes (param n) f g (λ e. absurd cc) (write_name_goes n f level)
    (λ begins rules c read. param_ready c.state g.written n
    (name_known g rules c n read (write_name_has n f begins.anonymous)))

pub write_levels_goes : (vs : List Level) (f : File) → All IsLevel vs → Goes f (write_levels vs f)
write_levels_goes [] f levels = goes_refl f
write_levels_goes (v ∷ vs) f levels =
    goes_trans f (write_level v f) (write_levels vs (write_level v f))
    (write_level_goes v f (All-head IsLevel v vs levels))
    (write_levels_goes vs (write_level v f) (All-tail IsLevel v vs levels))

pub write_levels_has : (vs : List Level) (f : File) → All IsLevel vs
    → slice_get f.written.levels 0 ≡ Some zero_level
    → All (λ v. has_level (write_levels vs f).written v ≡ true) vs
write_levels_has [] f levels first = All-nil (λ v. has_level f.written v ≡ true)
write_levels_has (v ∷ vs) f levels first =
    let one : File = write_level v f in
    let all : File = write_levels vs one in
    let head = write_level_goes v f (All-head IsLevel v vs levels) in
    let tail = write_levels_goes vs one (All-tail IsLevel v vs levels) in
    All-cons (λ u. has_level all.written u ≡ true) v vs
    (grows_level one all v tail.grows (write_level_has v f first))
    (write_levels_has vs one (All-tail IsLevel v vs levels)
    (get_front f.written.levels one.written.levels 0 zero_level head.grows.levels first))

-- Trees.

add_tree_has : (e : Tree) (f : File) → has_tree (add_tree e f).written e ≡ true
unfolding add_tree
add_tree_has e f = has_last tree_discrete f.written.trees e

tree_once_has : (e : Tree) (f g : File) → has_tree (tree_once e f g).written e ≡ true
tree_once_has e f g =
    let P : File → Type 0 = λ h. has_tree h.written e ≡ true in
    either_file P (has_tree f.written e) f (add_tree e g) (λ h. h) (add_tree_has e g)

tree_goes : (e : Tree) (f g : File) → IsTree e → Goes f g
    → (Begins f.written → (rules : List RecRule) (c : Course) → IsRead g rules c
    → TreeReady c.state g.written e)
    → Goes f (tree_once e f g)
tree_goes e f g tree goes ready =
    goes_if (has_tree f.written e) f (add_tree e g)
    (goes_on f g (add_tree e g) goes (add_tree_grows e g)
    (λ begins rules c read fits. tree_on e g rules c tree read (ready begins rules c read) fits))

pub write_tree_has : (e : Tree) (f : File) → has_tree (write_tree e f).written e ≡ true
write_tree_has (var i) f = tree_once_has (var i) f _
write_tree_has (sort v) f = tree_once_has (sort v) f _
write_tree_has (const n vs) f = tree_once_has (const n vs) f _
write_tree_has (app a b) f = tree_once_has (app a b) f _
write_tree_has (lam a b) f = tree_once_has (lam a b) f _
write_tree_has (pi a b) f = tree_once_has (pi a b) f _
write_tree_has (let_in a v b) f = tree_once_has (let_in a v b) f _
write_tree_has (proj n i a) f = tree_once_has (proj n i a) f _
write_tree_has (lit n) f = tree_once_has (lit n) f _
write_tree_has wide f = tree_once_has wide f _
write_tree_has (str bytes) f = tree_once_has (str bytes) f _
write_tree_has (local k T) f = tree_once_has (local k T) f _

pub write_tree_goes : (e : Tree) (f : File) → IsTree e → Goes f (write_tree e f)
write_tree_goes (var i) f tree =
    tree_goes (var i) f f tree (goes_refl f) (λ begins rules c read. var_ready c.state f.written i)
write_tree_goes (sort v) f tree =
    let g : File = write_level v f in
    tree_goes (sort v) f g tree (write_level_goes v f tree)
    (λ begins rules c read. sort_ready c.state g.written v
    (level_known g rules c v read (write_level_has v f begins.zero)))
write_tree_goes (const n vs) f tree =
    let g : File = write_name n f in
    let h : File = write_levels vs g in
    let first = write_name_goes n f tree.0 in
    let second = write_levels_goes vs g tree.1 in
    tree_goes (const n vs) f h tree (goes_trans f g h first second)
    (λ begins rules c read. const_ready c.state h.written n vs
    (name_known h rules c n read
    (grows_name g h n second.grows (write_name_has n f begins.anonymous)))
    (All-weaker (λ v. has_level h.written v ≡ true)
    (λ v. c.state.levels (level_number h.written v) ≡ Some v)
    (λ v. level_known h rules c v read) vs
    (write_levels_has vs g tree.1 (begins_grows f g first.grows begins).zero)))
write_tree_goes (app a b) f tree =
    let g : File = write_tree a f in
    let h : File = write_tree b g in
    let first = write_tree_goes a f tree.0 in
    let second = write_tree_goes b g tree.1 in
    tree_goes (app a b) f h tree (goes_trans f g h first second)
    (λ begins rules c read. app_ready c.state h.written a b
    (tree_known h rules c a read (grows_tree g h a second.grows (write_tree_has a f)))
    (tree_known h rules c b read (write_tree_has b g)))
write_tree_goes (lam a b) f tree =
    let g : File = write_tree a f in
    let h : File = write_tree b g in
    let first = write_tree_goes a f tree.0 in
    let second = write_tree_goes b g tree.1 in
    tree_goes (lam a b) f h tree (goes_trans f g h first second)
    (λ begins rules c read. lam_ready c.state h.written (anonymous_known h rules c read) a b
    (tree_known h rules c a read (grows_tree g h a second.grows (write_tree_has a f)))
    (tree_known h rules c b read (write_tree_has b g)))
write_tree_goes (pi a b) f tree =
    let g : File = write_tree a f in
    let h : File = write_tree b g in
    let first = write_tree_goes a f tree.0 in
    let second = write_tree_goes b g tree.1 in
    tree_goes (pi a b) f h tree (goes_trans f g h first second)
    (λ begins rules c read. pi_ready c.state h.written (anonymous_known h rules c read) a b
    (tree_known h rules c a read (grows_tree g h a second.grows (write_tree_has a f)))
    (tree_known h rules c b read (write_tree_has b g)))
write_tree_goes (let_in a v b) f tree =
    let g : File = write_tree a f in
    let h : File = write_tree v g in
    let k : File = write_tree b h in
    let first = write_tree_goes a f tree.0 in
    let second = write_tree_goes v g tree.1.0 in
    let third = write_tree_goes b h tree.1.1 in
    let both = grows_trans g h k second.grows third.grows in
    tree_goes (let_in a v b) f k tree (goes_trans f g k first (goes_trans g h k second third))
    (λ begins rules c read. let_ready c.state k.written (anonymous_known k rules c read) a v b
    (tree_known k rules c a read (grows_tree g k a both (write_tree_has a f)))
    (tree_known k rules c v read (grows_tree h k v third.grows (write_tree_has v g)))
    (tree_known k rules c b read (write_tree_has b h)))
write_tree_goes (proj n i a) f tree =
    let g : File = write_name n f in
    let h : File = write_tree a g in
    let first = write_name_goes n f tree.0 in
    let second = write_tree_goes a g tree.1.1 in
    tree_goes (proj n i a) f h tree (goes_trans f g h first second)
    (λ begins rules c read. proj_ready c.state h.written n i a
    (name_known h rules c n read
    (grows_name g h n second.grows (write_name_has n f begins.anonymous)))
    (tree_known h rules c a read (write_tree_has a g)))
write_tree_goes (lit n) f tree =
    tree_goes (lit n) f f tree (goes_refl f) (λ begins rules c read. lit_ready c.state f.written n)
write_tree_goes wide f tree =
    tree_goes wide f f tree (goes_refl f) (λ begins rules c read. wide_ready c.state f.written)
write_tree_goes (str bytes) f tree =
    tree_goes (str bytes) f f tree (goes_refl f)
    (λ begins rules c read. str_ready c.state f.written bytes)
write_tree_goes (local k T) f tree = absurd tree
