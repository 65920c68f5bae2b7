-- Places and cutovers among the first events of the whole queue, and those behind them.
use Rattle.std.proofs.Common.{◌≡◌, ◌≤◌, ◌∷◌, ◌++◌, ℕ, Bool, true, false, List, [], refl, sym, ap, ◌∙◌}
use Rattle.std.proofs.lemmas.Bool.{and_parts}
use Rattle.std.proofs.lemmas.List.{take-append-drop, take-take}
use Rattle.std.proofs.lemmas.List.Folds.{list_any-append}
use Rattle.std.specs.List.{list_all}
use Rattle.std.specs.Prelude.{◌&&◌, ◌||◌, Option, if◌then◌else◌}
use Rattle.voy_event.specs.Events.{ends_part}
use Rattle.voy_export.specs.Recording.{Recording, whole_queue}
use Rattle.voy_export.specs.Steps.{first_puts, has_cutover, place_in, puts_between}
use Rattle.voy_meta.specs.Sides.{is_role}
use Rattle.voy_queue.specs.Putting.{Put, newer}
use Rattle.voy_tables.specs.declared.change.Role.{Role}
use Rattle.voy_tables.specs.declared.change.Role.TheVariants as role
use Rattle.voy_tables.specs.declared.change.Spot.{Spot}

-- all of these are of one exporter
abbrev pub AreBy : Role → List Put → Type 0
AreBy who puts = list_all (λ (put : Put). is_role put.event.role who) puts ≡ true

-- some first events, and those behind them
pub first_on : (recording : Recording) (from to : ℕ) → from ≤ to → first_puts recording to ≡ first_puts recording from ++ puts_between recording from to
first_on recording from to up =
    sym (take-append-drop from (first_puts recording to))
    ∙ ap (λ front. front ++ puts_between recording from to) (take-take from to (whole_queue recording) up)

pub place_on : (who : Role) (before : Option Spot) (xs ys : List Put) → place_in who before (xs ++ ys) ≡ place_in who (place_in who before xs) ys
place_on who before [] ys = refl
place_on who before (put ∷ xs) ys = place_on who (if is_role put.event.role who then newer before put.spot else before) xs ys

pub cutover_on : (who : Role) (xs ys : List Put) → has_cutover who (xs ++ ys) ≡ (has_cutover who xs || has_cutover who ys)
cutover_on who xs ys = list_any-append (λ (put : Put). is_role put.event.role who && ends_part put.event) xs ys

pub or_none : (b : Bool) → (b || false) ≡ b
or_none true = refl
or_none false = refl

-- who is one exporter is not the other
other_role : (a b c : Role) → is_role a b ≡ true → is_role c b ≡ false → is_role a c ≡ false
other_role role.Source role.Source role.Source is other = cc
other_role role.Source role.Source role.Target is other = refl
other_role role.Source role.Target c is other = cc
other_role role.Target role.Source c is other = cc
other_role role.Target role.Target role.Source is other = refl
other_role role.Target role.Target role.Target is other = cc

-- events of one exporter change nothing for the other
pub place_same : (who other : Role) (before : Option Spot) (puts : List Put) → AreBy who puts → is_role other who ≡ false → place_in other before puts ≡ before
place_same who other before [] are apart = refl
place_same who other before (put ∷ puts) are apart =
    let parts = and_parts (is_role put.event.role who) (list_all (λ (put : Put). is_role put.event.role who) puts) are in
    ap (λ is. place_in other (if is then newer before put.spot else before) puts) (other_role put.event.role who other parts.0 apart)
    ∙ place_same who other before puts parts.1 apart

pub cutover_none : (who other : Role) (puts : List Put) → AreBy who puts → is_role other who ≡ false → has_cutover other puts ≡ false
cutover_none who other [] are apart = refl
cutover_none who other (put ∷ puts) are apart =
    let parts = and_parts (is_role put.event.role who) (list_all (λ (put : Put). is_role put.event.role who) puts) are in
    ap (λ is. (is && ends_part put.event) || has_cutover other puts) (other_role put.event.role who other parts.0 apart)
    ∙ cutover_none who other puts parts.1 apart
