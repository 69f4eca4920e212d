-- The bytes of each sign.
use Rattle.written.specs.Written.{sign_bytes}
use Rattle.writer_parts.proofs.put_sign.Goals as goal

pub returns-in-AtMost : goal.returns-in-AtMost
unfolding sign_bytes
returns-in-AtMost c = rw c.in-AtMost.is c.put_token.ensures

pub returns-in-AtLeast : goal.returns-in-AtLeast
unfolding sign_bytes
returns-in-AtLeast c =
    rw c.in-AtLeast.is c.put_token-in-AtLeast.ensures

pub returns-in-Equal : goal.returns-in-Equal
unfolding sign_bytes
returns-in-Equal c =
    rw c.in-Equal.is c.put_token-in-Equal.ensures

pub returns-in-Less : goal.returns-in-Less
unfolding sign_bytes
returns-in-Less c =
    rw c.in-Less.is c.put_token-in-Less.ensures

pub returns-in-Greater : goal.returns-in-Greater
unfolding sign_bytes
returns-in-Greater c =
    rw c.in-Greater.is c.put_token-in-Greater.ensures
