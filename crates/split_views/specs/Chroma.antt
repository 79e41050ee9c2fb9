-- A chroma plane of the auxiliary view, as it is written; the law chroma_plane says which planes it is.
--
--   chroma_sample t stride own u v first r c    V1: the odd columns of the even rows of the plane `own`; V2: of the odd rows of U and V
--                            every fourth column from `first` on
use Rattle.std.specs.Prelude.{ℕ, ◌+◌, ◌*◌, List}
use Rattle.layout.specs.declared.Layout.{Layout}
use Rattle.layout.specs.declared.Layout.TheVariants.{V1, V2}
use Rattle.split_views.specs.Views.{seen, v2_chroma_sample}

unfoldable pub chroma_sample : Layout → ℕ → List ℕ → List ℕ → List ℕ → ℕ → ℕ → ℕ → ℕ
chroma_sample V1 stride own u v first r c = seen 128 own stride (2 * r) (2 * c + 1)
chroma_sample (V2 W) stride own u v first r c = v2_chroma_sample W stride u v first (2 * r + 1) c
