pub mod Leaving
mod TwoReads
mod TreeLemmas
mod SameTree
mod SameMap
pub mod OrderLemmas
mod GraftLaws
mod GraftOrder
mod GraftMap
pub mod WireRecords
pub mod DirectoryBytes
pub mod TreeDigests
pub mod Children
pub mod LookupLemmas
pub mod Descent
pub mod Learning
pub mod LookupOnce
pub mod Memos
pub mod GraftRoots
pub mod SameRoot
pub mod Sorted
pub mod VisitSteps
pub mod Distinct
pub mod SortedInsert
pub mod Apart
pub mod Listings
pub mod FlatTrees
pub mod FoldSteps
pub mod ChildOrder
pub mod FirstFaults
pub mod UnfoldSteps
pub mod ByPath
pub mod FoundEntries
pub mod ValidTrees
pub mod OwnDirectories
pub mod FirstNames
pub mod DifferenceSteps
pub mod Ways
pub mod DifferenceOnce
pub mod Visits
pub mod TreeBlobs
pub mod Totals
pub mod FirstDifferences
pub mod TrueDifferences
pub mod Mismatches
pub mod TrueMismatches
pub mod MergeApart
pub mod MergeBridge
pub mod MergeGroups
pub mod MergeHeld
pub mod MergeLaws
pub mod MergeLooking
pub mod MergeStages
pub mod MergeSteps
pub mod StageLaws
pub mod MergeBelow
pub mod MergeTrees
pub mod MergeLoops
pub mod MergeCounts
pub mod MergePairs
pub mod MergeTold
pub mod MergeOpens
pub mod MergeValid
pub mod MergeJoins
pub mod MergeTotal
pub mod MergeFaults
pub mod MergeAlike
pub mod GivenKeys
pub mod GivenLines
pub mod FailSinks
mod MergeExample
mod Examples
