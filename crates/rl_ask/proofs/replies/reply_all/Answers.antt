use Rattle.std.proofs.Common.{[], ◌++◌, arith, subst, sym}
use Rattle.std.proofs.lemmas.Bool.Decides.{nat_tests}
use Rattle.rl_ask.specs.Lines.{IsReply, IsNextLine, none, next}
use Rattle.rl_ask.proofs.ReplyLemmas.{appends-more, appends-none, err-holds, ok-holds, line-read, rose-later}
use Rattle.rl_ask.proofs.replies.reply_all.Goals as goal

pub loop-init : goal.loop-init
loop-init g c = ([], none, appends-none _, omega arith)

pub returns-then-is_err : goal.returns-then-is_err
returns-then-is_err g c = record {
  rest = g.R.Read.remaining c.loop.input;
  after = g.R.Read.remaining c.read_until.new.self;
  output = c.loop.invariant.0;
  line = c.as_slice.result.now;
  reply = c.as_bytes.result.now;
  held = g.O.Sink.bytes c.loop.out;
  replies = c.loop.invariant.1;
  written = c.loop.invariant.2;
  is_next = record {
    some = first_of (omega (arith, c.as_slice.ensures.len, c.in-Ok.ensures.ok, c.new-line.ensures.len, c.new-line.ensures.items, c.in-Ok.field-0-test), grind (arith, nat_tests, c.as_slice.ensures.len, c.in-Ok.ensures.ok, c.new-line.ensures.len, c.in-Ok.field-0-test));
    is_first = line-read (g.R.Read.remaining c.loop.input) _ _ _ c.new-line.ensures.items c.as_slice.ensures.value c.in-Ok.ensures.bytes;
    is_left = c.in-Ok.ensures.rest;
  };
  right = subst (IsReply c.as_slice.result.now) (sym c.as_bytes.ensures) c.reply_to-reply.ensures;
  part = err-holds c.write_all.result c.is_err.result _ c.is_err.ensures.value c.if-is_err.true c.write_all.ensures.err;
  cause = rose-later (g.O.Sink.fault_count c.args.out.now) (g.O.Sink.fault_count c.loop.out) _ c.loop.invariant.3
      (err-holds c.write_all.result c.is_err.result _ c.is_err.ensures.value c.if-is_err.true c.write_all.ensures.cause.failed);
}

pub loop-preserved : goal.loop-preserved
loop-preserved g c =
    let line : IsNextLine (g.R.Read.remaining c.loop.input) (g.R.Read.remaining c.read_until.new.self) c.as_slice.result.now = record {
      some = first_of (omega (arith, c.as_slice.ensures.len, c.in-Ok.ensures.ok, c.new-line.ensures.len, c.new-line.ensures.items, c.in-Ok.field-0-test), grind (arith, nat_tests, c.as_slice.ensures.len, c.in-Ok.ensures.ok, c.new-line.ensures.len, c.in-Ok.field-0-test));
      is_first = line-read (g.R.Read.remaining c.loop.input) _ _ _ c.new-line.ensures.items c.as_slice.ensures.value c.in-Ok.ensures.bytes;
      is_left = c.in-Ok.ensures.rest;
    } in (
      c.loop.invariant.0 ++ c.as_bytes.result.now,
      next c.loop.invariant.1 line (subst (IsReply c.as_slice.result.now) (sym c.as_bytes.ensures) c.reply_to-reply.ensures),
      appends-more _ (g.O.Sink.bytes c.loop.out) _ _ _ c.loop.invariant.2
          (ok-holds c.write_all.result c.is_err.result _ c.is_err.ensures.value c.if-is_err.false c.write_all.ensures.ok),
      omega (arith, c.loop.invariant.3, c.write_all.ensures.cause.later),
    )
