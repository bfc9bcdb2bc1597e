-- One more piece is read at the place, and then blanks.
use Rattle.std.proofs.Common.{◌≡◌, ℕ, ◌+◌, length, ap, ◌∙◌, arith, sym, subst}
use Rattle.rl_pylex.specs.Source.{Reaches}
use Rattle.rl_pylex.specs.Rules.{reading}
use Rattle.rl_pylex.proofs.Cuts.{Reaches-step, Reaches-blanks, fits_in_rest}
use Rattle.rl_pylex.proofs.lex.read_pieces.Goals as goal

pub loop-at-preserved : goal.loop-at-preserved
loop-at-preserved c =
    let s = c.args.source.now in
    let next = c.loop-at.at + c.in-Piece.size in
    let depth = c.depth_after-depth.result in
    let ts = c.push_piece.new.tokens in
    let one = Reaches-step s _ c.loop-at.at c.loop-at.depth depth _ ts _ c.in-Piece.size c.loop-at.invariant.0 c.rest_from-text.ensures c.in-Piece.ensures.value c.depth_after-depth.ensures.value c.in_ok-push_piece-in-Piece.ensures.pushed in (
      subst (λ (n : ℕ). Reaches s n depth ts) (sym c.after_blanks-at.ensures.value) (Reaches-blanks s next depth ts one),
      c.after_blanks-at.ensures.within,
      omega (arith, c.in-Piece.ensures.bounded.0, c.loop-at.invariant.2, c.depth_after-depth.ensures.bound, c.after_blanks-at.ensures.value),
    )

pub after_blanks-at-requires : goal.after_blanks-at-requires
after_blanks-at-requires c =
    fits_in_rest c.args.source.now c.rest_from-text.result.now c.loop-at.at c.in-Piece.size c.rest_from-text.ensures c.loop-at-test.true c.in-Piece.ensures.bounded.1

pub returns-in-Unterminated-clause-err : goal.returns-in-Unterminated-clause-err
returns-in-Unterminated-clause-err c = (
  c.requires.readable,
  record {
    within = c.loop-at-test.true;
    depth = c.loop-at.depth;
    before = _;
    reaches = c.loop-at.invariant.0;
    found_there = sym (c.in-Unterminated.ensures.value ∙ ap (reading c.loop-at.depth) c.rest_from-text.ensures);
  },
)

pub returns-in-Stray-clause-err : goal.returns-in-Stray-clause-err
returns-in-Stray-clause-err c = (
  c.requires.readable,
  record {
    within = c.loop-at-test.true;
    depth = c.loop-at.depth;
    before = _;
    reaches = c.loop-at.invariant.0;
    found_there = sym (c.in-Stray.ensures.value ∙ ap (reading c.loop-at.depth) c.rest_from-text.ensures);
  },
)

pub returns-clause-ok : goal.returns-clause-ok
returns-clause-ok c =
    let s = c.args.source.now in
    let end : c.loop-at.at ≡ length s = omega (arith, c.loop-at-test.false, c.loop-at.invariant.1) in
    record {
      readable = c.requires.readable;
      depth = c.loop-at.depth;
      reaches = subst (λ (n : ℕ). Reaches s n c.loop-at.depth c.loop-at.tokens) end c.loop-at.invariant.0;
    }
