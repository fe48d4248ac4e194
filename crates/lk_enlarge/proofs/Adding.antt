-- What constants stand for, added one after another, while the store grows.
use Rattle.std.proofs.Common.{◌≡◌, ℕ, ◌<◌, List, [], ◌∷◌, ◌++◌, length, refl, sym, ap, subst, ◌∙◌, append_assoc, arith}
use Rattle.std.specs.Prelude.{slice_index_or}
use Rattle.std.proofs.lemmas.List.{append-nil, map-append}
use Rattle.std.proofs.lemmas.List.Elements.{All-nil, All-same, All-push}
use Rattle.lk_tree.specs.Tree.{Name}
use Rattle.lk_inductive.specs.Enlarged.{Setting}
use Rattle.lk_inductive.specs.Restore as plain
use Rattle.lk_store.specs.Contents.{Contents, Extends}
use Rattle.lk_restore.specs.declared.originals.Original.{Original}
use Rattle.lk_restore.specs.declared.originals.Original.TheVariants.{Applied, Renamed}
use Rattle.lk_restore.specs.Originals.{original_at, originals_at, IsOriginalIn, AreOriginalsIn, IsStanding, AreStanding}
use Rattle.lk_restore.specs.Steady.{originals-known, originals-steady}
use Rattle.lk_enlarge.specs.Originals.{StandsFor, StandFor, Adds}

-- of what is equal
pub stands_as : (d : Contents) (s t : Setting) (p q : Name × plain.Original) (o : Original) → s ≡ t → p ≡ q → StandsFor d s p o → StandsFor d t q o
stands_as d s t p q o same is h = subst (λ t. StandsFor d t q o) same (subst (λ q. StandsFor d s q o) is h)

pub adds_as : (c d : Contents) (s t : Setting) (os ns : List Original) (ps qs : List (Name × plain.Original)) → s ≡ t → ps ≡ qs → Adds c d s os ns ps → Adds c d t os ns qs
adds_as c d s t os ns ps qs same are h = subst (λ t. Adds c d t os ns qs) same (subst (Adds c d s os ns) are h)

module _ (c d : Contents) (x : Extends c d) where
  pub name_known : (n : ℕ) → n < length c.names → n < length d.names
  name_known n small = let longer = x.names.longer in omega arith

  stays_standing : (s : Setting) (o : Original) → IsOriginalIn c o → IsStanding c s o → IsStanding d s o
  stays_standing s (Applied n J from to) i h = rw (x.names.same n i.0, x.names.same J i.1, x.trees.same from i.2, x.trees.same to i.3) h
  stays_standing s (Renamed n R) i h = tt

  stay_standing : (s : Setting) (os : List Original) → AreOriginalsIn c os → AreStanding c s os → AreStanding d s os
  stay_standing s os i h = λ k o l. stays_standing s (slice_index_or os k o) (i k o l) (h k o l)

module _ (c d : Contents) (s : Setting) where
  pub one_added : (x : Extends c d) (os ns : List Original) (o : Original) (p : Name × plain.Original) → ns ≡ os ++ o ∷ [] → StandsFor d s p o → Adds c d s os ns (p ∷ [])
  one_added x os ns o p pushed h front were = record {
    known = All-same (IsOriginalIn d) ns (os ++ o ∷ []) pushed (All-push (IsOriginalIn d) os o (originals-known c d x os were.known) h.known);
    are =
        ap (originals_at d) pushed
        ∙ map-append (original_at d) os (o ∷ [])
        ∙ ap (λ y. y ++ original_at d o ∷ []) (originals-steady c d x os were.known ∙ were.are)
        ∙ ap (λ y. front ++ y ∷ []) h.is;
    standing = All-same (IsStanding d s) ns (os ++ o ∷ []) pushed (All-push (IsStanding d s) os o (stay_standing c d x s os were.known were.standing) h.standing);
  }

  pub more_added : (e : Contents) (os ms ns : List Original) (ps qs : List (Name × plain.Original)) → Adds c d s os ms ps → Adds d e s ms ns qs → Adds c e s os ns (ps ++ qs)
  more_added e os ms ns ps qs f g front were = subst (λ y. StandFor e s y ns) (append_assoc front ps qs) (g (front ++ ps) (f front were))

-- nothing is added
pub none_added : (c : Contents) (s : Setting) (os : List Original) → Adds c c s os os []
none_added c s os front were = subst (λ y. StandFor c s y os) (sym (append-nil front)) were

-- from none on
all_added : (c d : Contents) (s : Setting) (ns : List Original) (ps : List (Name × plain.Original)) → Adds c d s [] ns ps → StandFor d s ps ns
all_added c d s ns ps h = h [] (record { known = All-nil (IsOriginalIn c); are = refl; standing = All-nil (IsStanding c s) })

-- from none on, once none are left
pub end_added : (c d : Contents) (s : Setting) (ns : List Original) (left all : List (Name × plain.Original)) → left ≡ []
    → ((e : Contents) (ms : List Original) → Adds d e s ns ms left → Adds c e s [] ms all) → StandFor d s all ns
end_added c d s ns left all none leads = all_added c d s ns all (leads d ns (subst (Adds d d s ns ns) (sym none) (none_added d s ns)))
