-- What constants stand for, while the store grows.
use Rattle.std.proofs.Common.{◌≡◌, List, [], ◌∷◌, refl, ap, arith}
use Rattle.std.specs.Prelude.{slice_index_or}
use Rattle.std.proofs.lemmas.List.Elements.{All-head, All-tail, All-weaker}
use Rattle.lk_store.specs.Contents.{Contents, Extends}
use Rattle.lk_restore.specs.declared.originals.Original.{Original}
use Rattle.lk_restore.specs.declared.originals.Original.TheVariants.{Applied, Renamed}
use Rattle.lk_inductive.specs.Block.{Shape}
use Rattle.lk_inductive.specs.Enlarged.{Setting}
use Rattle.lk_inductive.specs.Restore as plain
use Rattle.lk_restore.specs.Originals.{original_at, originals_at, IsOriginalIn, AreOriginalsIn, IsStanding, AreStanding, setting_of, AreOriginals, restoring_at}
use Rattle.lk_restore.specs.Marks.{mark_at, marks_at, reading}

module _ (c d : Contents) (x : Extends c d) where
  original-known : (o : Original) → IsOriginalIn c o → IsOriginalIn d o
  original-known (Applied n J from to) h =
      let names = x.names.longer in
      let trees = x.trees.longer in
      let a = h.0 in
      let b = h.1 in
      let e = h.2 in
      let f = h.3 in
      (omega arith, omega arith, omega arith, omega arith)
  original-known (Renamed n R) h =
      let names = x.names.longer in
      let a = h.0 in
      let b = h.1 in
      (omega arith, omega arith)

  pub originals-known : (os : List Original) → AreOriginalsIn c os → AreOriginalsIn d os
  originals-known os h = All-weaker (IsOriginalIn c) (IsOriginalIn d) original-known os h

  mark-steady : (o : Original) → IsOriginalIn c o → mark_at d o ≡ mark_at c o
  mark-steady (Applied n J from to) h = rw (x.names.same n h.0, x.names.same J h.1, x.trees.same from h.2, x.trees.same to h.3) refl
  mark-steady (Renamed n R) h = rw (x.names.same n h.0, x.names.same R h.1) refl

  pub marks-steady : (os : List Original) → AreOriginalsIn c os → marks_at d os ≡ marks_at c os
  marks-steady [] h = refl
  marks-steady (o ∷ os) h = rw (mark-steady o (All-head (IsOriginalIn c) o os h), marks-steady os (All-tail (IsOriginalIn c) o os h)) refl

  pub reading-steady : (os : List Original) → AreOriginalsIn c os → reading (marks_at d os) ≡ reading (marks_at c os)
  reading-steady os h = ap reading (marks-steady os h)

  original-steady : (o : Original) → IsOriginalIn c o → original_at d o ≡ original_at c o
  original-steady (Applied n J from to) h = rw (x.names.same n h.0, x.names.same J h.1, x.trees.same to h.3) refl
  original-steady (Renamed n R) h = rw (x.names.same n h.0, x.names.same R h.1) refl

  pub originals-steady : (os : List Original) → AreOriginalsIn c os → originals_at d os ≡ originals_at c os
  originals-steady [] h = refl
  originals-steady (o ∷ os) h = rw (original-steady o (All-head (IsOriginalIn c) o os h), originals-steady os (All-tail (IsOriginalIn c) o os h)) refl

  standing-known : (s : Setting) (o : Original) → IsOriginalIn c o → IsStanding c s o → IsStanding d s o
  standing-known s (Applied n J from to) i h = rw (x.names.same n i.0, x.names.same J i.1, x.trees.same from i.2, x.trees.same to i.3) h
  standing-known s (Renamed n R) i h = tt

  stand-known : (s : Setting) (os : List Original) → AreOriginalsIn c os → AreStanding c s os → AreStanding d s os
  stand-known s os i h = λ k o l. standing-known s (slice_index_or os k o) (i k o l) (h k o l)

  -- they are read back as before
  pub originals-stay : (p : Shape) (os : List Original) → AreOriginals c p os → AreOriginals d p os
  originals-stay p os h = record { known = originals-known os h.known; standing = stand-known (setting_of p) os h.known h.standing; over = h.over }

  pub restoring-steady : (p : Shape) (os : List Original) → AreOriginals c p os → restoring_at d os p ≡ restoring_at c os p
  restoring-steady p os h = ap (λ ms. plain.restoring ms (setting_of p)) (originals-steady os h.known)
