-- What runs of exchanges over a link do: what they ask, learn, report and save, and what holds after them.

-- open this first: over which links the headline holds of a campaign, and which steps are reported
pub mod Headline
-- why a run stops: the number and the name of each reason
pub mod Stops
-- the report of a run, line by line
pub mod Reporting
-- what is promised of a campaign: good and calm links, what is reported done, and what each end shows
pub mod Campaign
-- what a run of exchanges keeps, asks and learns, how it stands when it stops, and how near its end it is
pub mod Driving
-- what driving a client over a link promises, and ending a run
pub mod Drives
-- what the turns of a run make of a client
pub mod Turning
-- what exchanges over a link that goes on losing cost, and how many are enough
pub mod Losing
-- where the runs of a campaign were ended over the link
pub mod Ending
-- what is known at the end of each run, and what was asked and heard for it
pub mod Remembering
-- the runs client by client: what each begins with, and what its turns make of that
pub mod TurnedRuns
-- campaigns on several plans, of which each prolongs the one before it
pub mod Campaigns
-- what a campaign promises
pub mod MakesCampaigns
-- runs of which a crash of the machine may end some
pub mod Crashes
-- the disk of a run that a crash is to end
pub mod CrashedDisks
-- private: what the parts of such runs keep
pub mod PrivateCrashes
-- private: what the parts of a campaign keep
pub mod PrivateCampaignParts
-- private: what the parts of a campaign on several plans keep
pub mod PrivateCampaignsParts
-- private: the laws of the crates below that runs rest on
pub mod PrivateLawbook
-- What a run saves of a plan that it carries out, and how long it waits.

-- which texts are saved, and what each of them says
pub mod Saved
-- what a crash may leave of a run, at any moment
pub mod Lasting
-- what carrying out a plan promises
pub mod CarriesOut
-- all that a contract sees of a keeper, as one value, and what its calls leave on the disk
pub mod Keeping
-- that a text could not be written
pub mod Refusals
-- how long a run waits after exchanges that bring nothing
pub mod Waits
-- private: what the parts of a run keep
pub mod PrivateCarried
-- private: what a turn promises, and the exchange of its message
pub mod PrivateTurns
-- private: what an exchange of a run brings
pub mod PrivateSights
-- private: what only the clauses of private functions cite
pub mod Private
