-- `feed` goes by the state.
use Rattle.codecs.proofs.StateLaws.{feed_as}
use Rattle.codecs.specs.Utf8.{fed}
use mathlib.Core.Path.{refl}
use Rattle.codecs.specs.declared.utf8.State.TheVariants.{Start, One, Two, Three, AfterE0, AfterEd, AfterF0, AfterF4, Lost}
use Rattle.codecs.proofs.utf8.feed.Goals as goal

pub returns-in-Start : goal.returns-in-Start
unfolding fed
returns-in-Start c =
    let a = c.args in
    feed_as a.state Start a.b _ c.in-Start.is c.begin.ensures

pub returns-in-One : goal.returns-in-One
unfolding fed
returns-in-One c =
    let a = c.args in
    feed_as a.state One a.b _ c.in-One.is c.inside.ensures

pub returns-in-Two : goal.returns-in-Two
unfolding fed
returns-in-Two c =
    let a = c.args in
    feed_as a.state Two a.b _ c.in-Two.is c.inside-in-Two.ensures

pub returns-in-Three : goal.returns-in-Three
unfolding fed
returns-in-Three c =
    let a = c.args in
    feed_as a.state Three a.b _ c.in-Three.is c.inside-in-Three.ensures

pub returns-in-AfterE0 : goal.returns-in-AfterE0
unfolding fed
returns-in-AfterE0 c =
    let a = c.args in
    feed_as a.state AfterE0 a.b _ c.in-AfterE0.is c.inside-in-AfterE0.ensures

pub returns-in-AfterEd : goal.returns-in-AfterEd
unfolding fed
returns-in-AfterEd c =
    let a = c.args in
    feed_as a.state AfterEd a.b _ c.in-AfterEd.is c.inside-in-AfterEd.ensures

pub returns-in-AfterF0 : goal.returns-in-AfterF0
unfolding fed
returns-in-AfterF0 c =
    let a = c.args in
    feed_as a.state AfterF0 a.b _ c.in-AfterF0.is c.inside-in-AfterF0.ensures

pub returns-in-AfterF4 : goal.returns-in-AfterF4
unfolding fed
returns-in-AfterF4 c =
    let a = c.args in
    feed_as a.state AfterF4 a.b _ c.in-AfterF4.is c.inside-in-AfterF4.ensures

pub returns-in-Lost : goal.returns-in-Lost
unfolding fed
returns-in-Lost c = feed_as c.args.state Lost c.args.b _ c.in-Lost.is refl
