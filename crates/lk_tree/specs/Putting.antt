-- Several values put at once for the outermost variables. The first value is for the outermost variable.
use Rattle.std.specs.Prelude.{ℕ, suc, ◌-◌, nat_lt, if◌then◌else◌, List, length, slice_index_or}
use Rattle.lk_tree.specs.Tree.{Tree, var, sort, const, app, lam, pi, let_in, proj, lit, wide, str, local}

-- variable number i at depth d, where the values are put for the variables that d binders leave loose
abbrev pub put_var : List Tree → ℕ → ℕ → Tree
put_var values d i =
    if nat_lt i d then var i else (if nat_lt (i - d) (length values) then slice_index_or values (length values - 1 - (i - d)) wide else var (i - length values))

unfoldable pub put_at : List Tree → ℕ → Tree → Tree
put_at values d (var i) = put_var values d i
put_at values d (sort l) = sort l
put_at values d (const c ls) = const c ls
put_at values d (app f a) = app (put_at values d f) (put_at values d a)
put_at values d (lam A b) = lam (put_at values d A) (put_at values (suc d) b)
put_at values d (pi A B) = pi (put_at values d A) (put_at values (suc d) B)
put_at values d (let_in A a b) = let_in (put_at values d A) (put_at values d a) (put_at values (suc d) b)
put_at values d (proj S i s) = proj S i (put_at values d s)
put_at values d (lit n) = lit n
put_at values d wide = wide
put_at values d (str s) = str s
put_at values d (local k T) = local k T

-- b[values]
abbrev pub put : List Tree → Tree → Tree
put values b = put_at values 0 b
