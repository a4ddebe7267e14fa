-- The last of points, after others.
use Rattle.std.proofs.Common.{◌≡◌, List, [], ◌∷◌, ◌++◌, refl}
use Rattle.passages.specs.Points.{last_point}
use Rattle.consistency.specs.Leads.{Point}
use Rattle.consistency.specs.Ways.{PassedPoint}

-- It is the last of these after the last one of the others.
pub last_append : (p : Point) (points more : List PassedPoint) → last_point p (points ++ more) ≡ last_point (last_point p points) more
last_append p [] more = refl
last_append p (n ∷ points) more = last_append n.point points more

rows_from : (p q : Point) (more : List PassedPoint) → p.rows ≡ q.rows → (last_point p more).rows ≡ (last_point q more).rows
rows_from p q [] same = same
rows_from p q (n ∷ more) same = refl

-- The last of points after others has the rows that it has after a point with the rows of their last one.
pub last_rows_then : (first p : Point) (points more : List PassedPoint) → (last_point first points).rows ≡ p.rows → (last_point first (points ++ more)).rows ≡ (last_point p more).rows
last_rows_then first p [] more same = rows_from first p more same
last_rows_then first p (n ∷ points) more same = last_rows_then n.point p points more same
