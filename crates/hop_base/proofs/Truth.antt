-- What tests that passed say, and comparisons asked the other way round.
use Rattle.std.proofs.Common.{◌≡◌, Bool, true, false, ◌&&◌, refl, ap}
use Rattle.std.specs.declared.cmp.Ordering.{Ordering}
use Rattle.std.specs.declared.cmp.Ordering.TheVariants.{Less, Equal, Greater}
use Rattle.std.specs.Ordering.{is_gt, is_eq, ordering_reverse}
use Rattle.std.proofs.lemmas.Bool.{true≢false, false≢true}

pub both_true : (a b : Bool) → (a && b) ≡ true → (a ≡ true) × (b ≡ true)
both_true true b h = (refl, h)
both_true false b h = absurd (false≢true h)

pub eq_of : (o : Ordering) → is_eq o ≡ true → o ≡ Equal
eq_of Less e = absurd (false≢true e)
eq_of Equal e = refl
eq_of Greater e = absurd (false≢true e)

-- not above and not below
pub level : (o p : Ordering) → o ≡ ordering_reverse p → is_gt o ≡ false → is_gt p ≡ false → o ≡ Equal
level Less Less t e f = cc
level Less Equal t e f = cc
level Less Greater t e f = absurd (true≢false f)
level Equal p t e f = refl
level Greater p t e f = absurd (true≢false e)

pub below_from_above : (o p : Ordering) → p ≡ ordering_reverse o → is_gt o ≡ true → is_gt p ≡ false
below_from_above Less p t e = absurd (false≢true e)
below_from_above Equal p t e = absurd (false≢true e)
below_from_above Greater p t e = ap is_gt t
