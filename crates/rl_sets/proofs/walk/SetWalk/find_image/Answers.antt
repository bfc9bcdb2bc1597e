use Rattle.std.proofs.Common.{◌<◌, ℕ, List, [], Result, length, get_or, Some, refl, sym, ap, ◌∙◌, subst, arith}
use Rattle.std.proofs.lemmas.Result.{err_from_is_err_and}
use Rattle.rl_sets.specs.declared.error.SetsError.{SetsError}
use Rattle.rl_sets.specs.Live.{image}
use Rattle.rl_sets.specs.Walk.{set_at}
use Rattle.rl_sets.specs.internal.Steps.{IsAsked}
use Rattle.rl_sets.proofs.WalkLemmas.{IsAsked-same, set_stays}
use Rattle.rl_sets.proofs.walk.SetWalk.find_image.Goals as goal

pub returns-in_err-make_room : goal.returns-in_err-make_room
returns-in_err-make_room c =
    let room = c.make_room.ensures in
    let p = err_from_is_err_and c.from_residual.result c.from_residual.ensures.1 in
    rw (p.1, p.2) (record { listed = tt; inside = tt; longer = omega (arith, ap length room.sets); made = room.made; limit = room.limit; full = λ is. cc; unchanged = room.sets })

pub returns-in_err-number : goal.returns-in_err-number
returns-in_err-number c =
    let w = c.args.self.now in
    let new = c.image_number.new.self in
    let set = image c.args.a.now (set_at w c.args.set) c.args.letter in
    let p = err_from_is_err_and c.from_residual-in_err-number.result c.from_residual-in_err-number.ensures.1 in
    let e = ap (λ (l : List (List ℕ)). image c.args.a.now (get_or l c.args.set []) c.args.letter) c.make_room.ensures.sets in
    let asked : IsAsked c.args.a.now c.make_room.new.self new set c.image_number.result = subst (λ (s : List ℕ). IsAsked c.args.a.now c.make_room.new.self new s c.image_number.result) e c.image_number.ensures.asked in
    rw (p.1, p.2) (subst (λ (r : Result ℕ SetsError). IsAsked c.args.a.now w new set r) c.in_err-number.was (IsAsked-same w c.make_room.new.self new new c.args.a.now set c.image_number.result asked c.make_room.ensures.sets c.make_room.ensures.limit refl refl asked.made))

pub keep_image-requires-clause-image : goal.keep_image-requires-clause-image
keep_image-requires-clause-image c =
    let before = c.make_room.new.self in
    let listed = c.in_ok-number.ensures.asked.listed in
    let in' : c.args.set < length before.sets = omega (arith, ap length c.make_room.ensures.sets, c.requires.set_in) in
    listed.stands ∙ ap (λ (s : List ℕ). Some (image c.args.a.now s c.args.letter)) (sym (set_stays before.sets c.image_number.new.self.sets (image c.args.a.now (set_at before c.args.set) c.args.letter) c.in_ok-number.number c.args.set listed in'))

pub returns : goal.returns
returns c =
    let w = c.args.self.now in
    let new = c.image_number.new.self in
    let last = c.keep_image.new.self in
    let set = image c.args.a.now (set_at w c.args.set) c.args.letter in
    let e = ap (λ (l : List (List ℕ)). image c.args.a.now (get_or l c.args.set []) c.args.letter) c.make_room.ensures.sets in
    let asked : IsAsked c.args.a.now c.make_room.new.self new set c.image_number.result = subst (λ (s : List ℕ). IsAsked c.args.a.now c.make_room.new.self new s c.image_number.result) e c.image_number.ensures.asked in
    subst (λ (r : Result ℕ SetsError). IsAsked c.args.a.now w last set r) c.in_ok-number.was (IsAsked-same w c.make_room.new.self new last c.args.a.now set c.image_number.result asked c.make_room.ensures.sets c.make_room.ensures.limit c.keep_image.ensures.sets c.keep_image.ensures.limit c.keep_image.ensures.made)
