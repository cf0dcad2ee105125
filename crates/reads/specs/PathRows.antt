-- Paths of names, as rows spell them: document 01, "The sheet", "path seg*; seg (side: name number)". Definitions only.
use Rattle.std.specs.Prelude.{ℕ, zero, suc, Bool, false, ◌&&◌, eqb}
use Rattle.table.specs.Rows.{Forest, nil, node}

-- "seg (side: name number)": the first of these siblings, if there is one, is a segment that names the local x
unfoldable pub is_named : ℕ → Forest → Bool
is_named x nil = false
is_named x (node k s lo hi cs others) = eqb s x

-- "First segment only; an empty path never refers": the first of these siblings is a path that begins with the local
unfoldable pub begins : ℕ → Forest → Bool
begins x nil = false
begins x (node k s lo hi cs others) = is_named x cs

-- how many siblings there are
unfoldable pub count : Forest → ℕ
count nil = zero
count (node k s lo hi cs others) = suc (count others)

-- how many segments the path has that is the first of these siblings
unfoldable pub segments : Forest → ℕ
segments nil = zero
segments (node k s lo hi cs others) = count cs

-- "The plain local is an lident whose path is one segment, the local": a path of one segment, the local
unfoldable pub is_local : ℕ → Forest → Bool
is_local x cs = eqb (segments cs) 1 && begins x cs

-- the first of these siblings, if there is one, is a segment with a name that is marked
unfoldable pub is_marked : (ℕ → Bool) → Forest → Bool
is_marked marks nil = false
is_marked marks (node k s lo hi cs others) = marks s

-- is_loop_jump; "a disable whose path is one segment with jump mark 1": the first of these siblings is such a path
unfoldable pub is_loop_jump : (ℕ → Bool) → Forest → Bool
is_loop_jump marks nil = false
is_loop_jump marks (node k s lo hi cs others) = eqb (count cs) 1 && is_marked marks cs
